-- `traced::run` meets its contract: the call of a program that is refused.
use Rattle.traced.proofs.Called.{refused-is, load-refused}
use Rattle.traced.proofs.run.Goals as goal

pub returns-in-Err-clause-sheet_after : goal.returns-in-Err-clause-sheet_after
returns-in-Err-clause-sheet_after g c = load-refused _ _ _ _ _ c.in-Err.ensures.refused (refused-is _ _ _ _ _ _ _ _ _ c.stop.ensures)
