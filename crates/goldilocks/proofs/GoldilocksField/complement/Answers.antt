-- `GoldilocksField::complement` meets its contract: an element is at most p - 1.
use native.Mathlib.Omega.{arith}
use Rattle.rules.specs.Numbers.{p}
use Rattle.goldilocks.proofs.GoldilocksField.complement.Goals as goal

pub overflow_sub-result-2 : goal.overflow_sub-result-2
unfolding p
overflow_sub-result-2 c = omega arith

pub returns : goal.returns
unfolding p
returns c = omega arith
