-- `program_text::lines::malformed` meets its contract: more lines than are left of 512 are too many.
use Rattle.std.proofs.Common.{sym, ◌∙◌, ◌+◌, ◌-◌, length, arith}
use borrow.Author.Tests.{le-leb, lt-leb, ltb-true, ltb-false}
use Rattle.rules.specs.Text.{lines_of}
use Rattle.program_text.proofs.lines.malformed.Goals as goal

pub returns-then-more_lines : goal.returns-then-more_lines
returns-then-more_lines c =
    let a = c.args in
    let n = length (lines_of a.text.now) in
    let h = ltb-true (512 - a.frames) n (sym c.more_lines.ensures ∙ c.if-more_lines.true) in
    rw (lt-leb (a.frames + n) 512 (omega arith))

pub returns : goal.returns
returns c =
    let a = c.args in
    let n = length (lines_of a.text.now) in
    let h = ltb-false (512 - a.frames) n (sym c.more_lines.ensures ∙ c.if-more_lines.false) in
    rw (le-leb (a.frames + n) 512 (omega arith))
