-- `answer` prints the lines of its input.
use Rattle.std.proofs.Common.{rules}
use Rattle.std.proofs.lemmas.Result.{IfOk-at_ok}
use Rattle.solve.proofs.Answered.{answered, mapped-ok, mapped_on_ok}
use Rattle.solve.proofs.answer.Goals as goal

pub returns : goal.returns
returns g c =
    let n = c.in_ok-n.n in
    let e = mapped-ok _ c.read_all.result c.map_err.result n c.map_err.ensures.cases c.in_ok-n.was in
    let read = c.read_all.ensures in
    mapped_on_ok _ c.print_answer.result c.map_err-2.result c.map_err-2.ensures.cases
    (answered _ _ _ _ c.read_all.new.buffer n (search rules) (IfOk-at_ok _ e read.count).0 (IfOk-at_ok _ e read.bytes) (IfOk-at_ok _ e read.whole))
    c.print_answer.ensures
