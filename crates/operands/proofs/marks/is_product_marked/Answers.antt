-- `operands::marks::is_product_marked` meets its contract: by both marks, and where one is missing by its number.
use Prim.Native.Nat.{ℕ}
use mathlib.Core.Path.{◌≡◌, refl, sym}
use mathlib.Core.Bool.{Bool, true, false, not, ◌&&◌, ◌||◌}
use lib.Dec.{eqb}
use Rattle.rules.specs.Guarded.{product_mark}
use Rattle.rules.proofs.Laws.BoolLaws.{and-with-true, and-with-false}
use Rattle.operands.proofs.marks.is_product_marked.Goals as goal

op0-marked : (n : Bool) (a b : ℕ) → (n || not (eqb b 0)) ≡ product_mark true a n b
op0-marked true a b = refl
op0-marked false a b = sym (and-with-true (not (eqb b 0)))

op0-unmarked : (n : Bool) (a b : ℕ) → (n && not (eqb a 0)) ≡ product_mark false a n b
op0-unmarked false a b = sym (and-with-false (not (eqb a 0 || eqb b 0)))
op0-unmarked true a b = go (eqb a 0)
  where
    go : (z : Bool) → not z ≡ (not (z || false) && true)
    go true = refl
    go false = refl

pub returns-then-op0_mark : goal.returns-then-op0_mark
returns-then-op0_mark c = let a = c.args in rw c.if-op0_mark.true (op0-marked a.op1_mark a.op0 a.op1)

pub returns : goal.returns
returns c = let a = c.args in rw c.if-op0_mark.false (op0-unmarked a.op1_mark a.op0 a.op1)
