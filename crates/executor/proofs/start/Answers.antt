-- `executor::start` meets its contract: it is the start of `solve`.
use mathlib.Core.Path.{refl}
use Rattle.rules.specs.Numbers.{heap_end}
use Rattle.rules.specs.Solve.{solve_start}
use Rattle.executor.proofs.start.Goals as goal

pub returns : goal.returns
unfolding solve_start heap_end
returns c = refl
