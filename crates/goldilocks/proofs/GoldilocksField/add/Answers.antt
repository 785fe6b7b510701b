-- `GoldilocksField::add` meets its contract: the sum, or the sum less p, is below p.
use native.Mathlib.Omega.{arith}
use borrow.Author.Rules.{rules}
use Rattle.rules.specs.Numbers.{p}
use Rattle.goldilocks.proofs.Remainders.{is-mod}
use Rattle.goldilocks.proofs.GoldilocksField.add.Goals as goal

pub overflow_sub-gap : goal.overflow_sub-gap
unfolding p
overflow_sub-gap c = search rules

pub overflow_add-result : goal.overflow_add-result
unfolding p
overflow_add-result c = omega arith

pub returns-then-self-gap : goal.returns-then-self-gap
unfolding p
returns-then-self-gap c = is-mod _ _ 0 (omega arith) (omega arith)

pub returns-else-self-gap : goal.returns-else-self-gap
unfolding p
returns-else-self-gap c = is-mod _ _ 1 (omega arith) (omega arith)
