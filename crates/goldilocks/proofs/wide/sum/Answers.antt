-- `goldilocks::wide::sum` meets its contract: the sum, less p or 2 * p where it reaches them, is below p.
use native.Mathlib.Omega.{arith}
use borrow.Author.Rules.{rules}
use Rattle.rules.specs.Numbers.{p}
use Rattle.goldilocks.proofs.Remainders.{is-mod}
use Rattle.goldilocks.proofs.wide.sum.Goals as goal

pub overflow_sub-gap : goal.overflow_sub-gap
unfolding p
overflow_sub-gap c = search rules

pub returns-then-a-gap : goal.returns-then-a-gap
unfolding p
returns-then-a-gap c = is-mod _ _ 0 (omega arith) (omega arith)

pub returns-then-s-lt-ORDER : goal.returns-then-s-lt-ORDER
unfolding p
returns-then-s-lt-ORDER c = is-mod _ _ 1 (omega arith) (omega arith)

pub returns-else-s-lt-ORDER : goal.returns-else-s-lt-ORDER
unfolding p
returns-else-s-lt-ORDER c = is-mod _ _ 2 (omega arith) (omega arith)
