-- What an answer says: an element, or that there is none.
use Rattle.std.specs.Prelude.{Some, None}
use mathlib.Core.Path.{◌≡◌, refl, sym, ap}
use mathlib.Core.Bool.{Bool, true, false}
use Prim.Native.Nat.{ℕ}
use native.Mathlib.Omega.{arith}
use Rattle.goldilocks.specs.declared.GoldilocksField.{GoldilocksField}
use Rattle.goldilocks.specs.Elements.{element_where}

pub element : (t : Bool) (n : ℕ) (x : GoldilocksField) → element_where t n ≡ Some x → (t ≡ true) × (x.value ≡ n)
element true n x e =
    let q : ◌≡◌ {A = GoldilocksField} (record { value = n }) x = cc in
    (refl, sym (ap (λ (y : GoldilocksField). y.value) q))
element false n x e = let z : ◌≡◌ {A = ℕ} 0 1 = cc in absurd (omega arith)

pub none : (t : Bool) (n : ℕ) → element_where t n ≡ None → t ≡ false
none true n e = cc
none false n e = refl
