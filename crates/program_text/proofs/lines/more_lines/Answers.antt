-- `program_text::lines::more_lines` meets its contract.
use Rattle.std.proofs.Common.{sym, ap, length, Some, None, arith}
use borrow.Author.Tests.{le-ltb}
use Rattle.std.proofs.lemmas.List.{take_rest, length-drop}
use Rattle.rules.specs.Text.{lines_of}
use Rattle.program_text.proofs.Breaking.{ends-at, lines_next, last-line, rest-more}
use Rattle.program_text.proofs.lines.more_lines.Goals as goal

pub loop-init : goal.loop-init
loop-init c = (omega arith, omega arith)

-- no line or an unended one is left
pub returns-in_default : goal.returns-in_default
returns-in_default c =
    let n = last-line c.loop.rest.now (ends-at c.loop.rest.now None c.in_default.ensures) in
    sym (le-ltb c.args.limit (length (lines_of c.args.text.now)) (omega arith))

pub overflow_add-rest : goal.overflow_add-rest
overflow_add-rest c = let e = ends-at c.loop.rest.now (Some c.in-Some.end) c.in-Some.ensures in omega arith

pub loop-preserved : goal.loop-preserved
loop-preserved c =
    let e = ends-at c.loop.rest.now (Some c.in-Some.end) c.in-Some.ensures in
    let s = ap length (lines_next c.loop.rest.now (omega arith)) in
    rw (take_rest, e.0) (simp length-drop (omega arith), omega arith)

pub returns : goal.returns
returns c = rw c.is_empty.ensures (rest-more c.loop.rest.now c.args.limit _ (omega arith))
