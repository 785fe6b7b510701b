-- `goldilocks::wide::difference` meets its contract: it is a - b, or p more.
use native.Mathlib.Omega.{arith}
use Rattle.rules.specs.Numbers.{p}
use Rattle.goldilocks.proofs.Remainders.{same-mod}
use Rattle.goldilocks.proofs.wide.difference.Goals as goal

pub returns-then-a-b : goal.returns-then-a-b
unfolding p
returns-then-a-b c = same-mod _ _ 0 1 (omega arith)

pub returns-else-a-b : goal.returns-else-a-b
unfolding p
returns-else-a-b c = same-mod _ _ 0 0 (omega arith)
