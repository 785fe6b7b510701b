-- Products with 0 on either side: their number, and what says that a product is blanked (document 02, #108).
use Prim.Native.Nat.{ℕ, ◌*◌, ◌%◌, ◌<◌}
use mathlib.Core.Path.{◌≡◌, refl, sym, ap, ◌∙◌}
use mathlib.Core.Bool.{Bool, true, false, not, ◌&&◌, ◌||◌}
use native.Mathlib.Omega.{arith}
use native.Mathlib.Nat.{mod-eq_of_lt}
use lib.Dec.{eqb, lit<}
use borrow.Author.Tests.{eqb-true}
use Rattle.rules.specs.Numbers.{p}
use Rattle.rules.specs.Field.{field_mul}
use Rattle.rules.specs.Guarded.{is_unmarked_zero, product_mark}
use Rattle.rules.proofs.Laws.BoolLaws.{false-true, and-with-false}

p-positive : 0 < p
unfolding p
p-positive = lit< tt

zero-remains : 0 % p ≡ 0
zero-remains = mod-eq_of_lt p-positive

pub zero_left : {a : ℕ} (b : ℕ) → a ≡ 0 → field_mul a b ≡ 0
zero_left {a} b e = let n : a * b ≡ 0 = ap (λ c. c * b) e ∙ omega arith in ap (λ c. c % p) n ∙ zero-remains

pub zero_right : (a : ℕ) {b : ℕ} → b ≡ 0 → field_mul a b ≡ 0
zero_right a {b} e = let n : a * b ≡ 0 = ap (λ c. a * c) e ∙ omega arith in ap (λ c. c % p) n ∙ zero-remains

-- a factor operand's mark is that of the product of its register and its factor word, which is unmarked
pub factor-mark : (m : Bool) (a w : ℕ) → product_mark m a false w ≡ (not (eqb w 0) && m)
factor-mark true a w = refl
factor-mark false a w = and-with-false (not (eqb a 0 || eqb w 0)) ∙ sym (and-with-false (not (eqb w 0)))

-- an unmarked 0, by mark and number
pub unmarked-zero : (m : Bool) (n : ℕ) → is_unmarked_zero m n ≡ true → (m ≡ false) × (n ≡ 0)
unmarked-zero true n h = absurd (false-true h)
unmarked-zero false n h = (refl, eqb-true n 0 h)

pub zero-unmarked : {m : Bool} {n : ℕ} → m ≡ false → n ≡ 0 → is_unmarked_zero m n ≡ true
zero-unmarked {m} {n} e h = ap (λ k. is_unmarked_zero m k) h ∙ ap (λ b. is_unmarked_zero b 0) e
