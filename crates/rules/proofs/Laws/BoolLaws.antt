-- What a conjunction or a disjunction of tests says of each of them, and back.
use Prim.Native.Nat.{ℕ, ◌≤◌}
use mathlib.Core.Path.{◌≡◌, refl, sym, ap, ◌∙◌}
use mathlib.Core.Bool.{Bool, true, false, ◌&&◌, ◌||◌}
use native.Mathlib.Omega.{arith}
use Rattle.rules.specs.Numbers.{bit}

pub false-true : ◌≡◌ {A = Bool} false true → ⊥
false-true e = let z : ◌≡◌ {A = ℕ} 0 1 = cc in omega arith

pub and_left : (a b : Bool) → (a && b) ≡ true → a ≡ true
and_left true b h = refl
and_left false b h = h

pub and_right : (a b : Bool) → (a && b) ≡ true → b ≡ true
and_right true b h = h
and_right false b h = absurd (false-true h)

pub and-true : {a b : Bool} → a ≡ true → b ≡ true → (a && b) ≡ true
and-true {a} {b} e f = ap (λ x. x && b) e ∙ f

pub or_left : (a b : Bool) → (a || b) ≡ false → a ≡ false
or_left true b e = e
or_left false b e = refl

pub or_right : (a b : Bool) → (a || b) ≡ false → b ≡ false
or_right true b e = absurd (false-true (sym e))
or_right false b e = e

pub and-equal : {a b c d : Bool} → a ≡ b → c ≡ d → (a && c) ≡ (b && d)
and-equal {b = b} {c} e f = ap (λ x. x && c) e ∙ ap (λ x. b && x) f

pub and-with-true : (b : Bool) → (b && true) ≡ b
and-with-true true = refl
and-with-true false = refl

pub and-with-false : (b : Bool) → (b && false) ≡ false
and-with-false true = refl
and-with-false false = refl

pub or-equal : {a b c d : Bool} → a ≡ b → c ≡ d → (a || c) ≡ (b || d)
or-equal {b = b} {c} e f = ap (λ x. x || c) e ∙ ap (λ x. b || x) f

pub or-first : {a : Bool} (b : Bool) → a ≡ true → (a || b) ≡ true
or-first b e = ap (λ x. x || b) e

pub or-second : (a : Bool) {b : Bool} → b ≡ true → (a || b) ≡ true
or-second true e = refl
or-second false e = e

pub or_case : {X : Type 0} (a b : Bool) → (a || b) ≡ true → (a ≡ true → X) → (b ≡ true → X) → X
or_case true b h f g = f refl
or_case false b h f g = g h

-- the number of a test is 0 or 1
pub bit-one : (b : Bool) → bit b ≤ 1
bit-one true = omega arith
bit-one false = omega arith
