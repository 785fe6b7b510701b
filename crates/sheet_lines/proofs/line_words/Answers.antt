-- `sheet_lines::line_words` meets its contract: the words are listed in the definition's order.
use borrow.Author.Rules.{rules}
use Rattle.sheet_lines.proofs.WordByWord.{words-listed}
use Rattle.sheet_lines.proofs.line_words.Goals as goal

pub returns : goal.returns
returns c =
    let a = c.args in
    let m = a.machine in
    words-listed m.clk m.pc m.registers a.present a.op0 a.op1 a.dst (search rules)
    c.show.ensures c.show-2.ensures c.show-3.ensures c.presence.ensures
