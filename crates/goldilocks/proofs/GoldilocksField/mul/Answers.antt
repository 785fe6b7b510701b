-- `GoldilocksField::mul` meets its contract: what `reduce` ensures of the number that `product` gives.
use mathlib.Core.Path.{ap, ◌∙◌}
use Prim.Native.Nat.{ℕ, ◌%◌}
use Rattle.rules.specs.Numbers.{p}
use Rattle.goldilocks.proofs.GoldilocksField.mul.Goals as goal

pub returns : goal.returns
returns c = c.reduce.ensures ∙ ap (λ (n : ℕ). n % p) c.product.ensures
