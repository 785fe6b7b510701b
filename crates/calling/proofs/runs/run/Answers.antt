-- `calling::runs::run` meets its contract: the call of a program that is refused.
use Rattle.calling.proofs.Answered.{refused-is, load-refused}
use Rattle.calling.proofs.runs.run.Goals as goal

pub returns-in-Err : goal.returns-in-Err
returns-in-Err g c = load-refused _ _ _ _ _ _ c.in-Err.ensures.refused (refused-is _ _ _ _ _ _ _ _ _ _ c.refuse.ensures)
