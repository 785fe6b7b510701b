-- What the loops of `put_digits` and `digit_count` go by.
use Rattle.std.specs.Prelude.{Some, None}
use mathlib.Core.Path.{◌≡◌, refl, sym, ap, ap₂, ◌∙◌, subst}
use mathlib.Core.List.{List}
use Prim.Native.Nat.{ℕ, zero, suc, ◌+◌, ◌*◌, ◌/◌, ◌%◌, ◌^◌, max, ◌<◌, ◌≤◌}
use native.Mathlib.Nat.{pow-suc, not-suc-le-zero, one-le-pow}
use native.Mathlib.Omega.{arith}
use lib.ListN.{length, set}
use lib.Pow.{pow_mono, pow-add}
use borrow.Author.Tests.{lt-ltb, le-ltb}
use Rattle.rules.specs.Hexadecimal.{digit_char, low_digits, digit_count}
use Rattle.hexadecimal.specs.Writing.{overlay_at, Writes}
use Rattle.hexadecimal.proofs.Words.{low-length}
use Rattle.hexadecimal.proofs.Buffers.{overlay-nil, overlay-snoc, no-space, all-written}

-- the lowest digit is stored in the last of the places that are left, and the others are to come
pub digit-stored : (b : List ℕ) (at place n left v c : ℕ) → place ≡ at + left → n ≡ suc left → place < length b → c ≡ digit_char (v % 16)
    → overlay_at (set b place c) at (low_digits left (v / 16)) ≡ overlay_at b at (low_digits n v)
unfolding low_digits
digit-stored b at place n left v c q k l e =
    let m : place ≡ at + length (low_digits left (v / 16)) = omega (arith, low-length left (v / 16)) in
    let o : at + length (low_digits left (v / 16)) < length b = omega arith in
    ap₂ (λ (i d : ℕ). overlay_at (set b i d) at (low_digits left (v / 16))) m e
    ∙ overlay-snoc b at (low_digits left (v / 16)) (digit_char (v % 16)) o
    ∙ ap (λ (i : ℕ). overlay_at b at (low_digits i v)) (sym k)

module _ (b : List ℕ) (at n v : ℕ) where
  pub digits-refused : length b < at + n → Writes (low_digits n v) b at None b
  digits-refused h = no-space b at (low_digits n v) (omega (arith, low-length n v))

  -- none is left to come
  pub digits-written : (after : List ℕ) (left rest : ℕ) → left ≡ 0 → at + n ≤ length b → overlay_at after at (low_digits left rest) ≡ overlay_at b at (low_digits n v)
      → Writes (low_digits n v) b at (Some (at + n)) after
  unfolding low_digits
  digits-written after left rest z h e =
      let d : overlay_at b at (low_digits n v) ≡ after = sym e ∙ rw z (overlay-nil after at) in
      subst (λ (k : ℕ). Writes (low_digits n v) b at (Some (at + k)) after) (low-length n v)
      (subst (Writes (low_digits n v) b at (Some (at + length (low_digits n v)))) d (all-written b at (low_digits n v) (omega (arith, low-length n v))))

-- a number of k + 1 digits
pub count-is : (n k v : ℕ) → k ≤ n → 16 ^ k ≤ max v 1 → v < 16 ^ (k + 1) → digit_count n v ≡ k + 1
unfolding digit_count
count-is zero zero v h l u = refl
count-is zero (suc k) v h l u = absurd (not-suc-le-zero h)
count-is (suc n) zero v h l u = rw (lt-ltb v 16 (omega arith))
count-is (suc n) (suc k) v h l u =
    let p = pow-suc 16 k in
    let q = pow-suc 16 (suc k) in
    let o = one-le-pow k 16 (omega arith) in
    let e : suc k + 1 ≡ suc (suc k) = omega arith in
    let f : k + 1 ≡ suc k = omega arith in
    let m : v < 16 ^ suc (suc k) = rw e at u in
    rw (le-ltb v 16 (omega arith)) (omega (arith, count-is n k (v / 16) (omega arith) (omega arith) (rw f (omega arith))))

sixteens : (k : ℕ) → 2 ^ (4 * k) ≡ 16 ^ k
sixteens zero = refl
sixteens (suc k) = let e : 4 * suc k ≡ 4 * k + 4 = omega arith in let p = pow-suc 16 k in rw (e, pow-add 2 (4 * k) 4, sixteens k) (omega arith)

-- and r its highest bit
pub bits-count : (v r : ℕ) → 2 ^ r ≤ max v 1 → max v 1 < 2 * 2 ^ r → r < 64 → digit_count 15 v ≡ r / 4 + 1
bits-count v r l u h =
    let k = r / 4 in
    let low : 2 ^ (4 * k) ≤ 2 ^ r = pow_mono (omega arith) in
    let high : 2 ^ (r + 1) ≤ 2 ^ (4 * (k + 1)) = pow_mono (omega arith) in
    let p = pow-suc 2 r in
    let e : suc r ≡ r + 1 = omega arith in
    let q = ap (λ (i : ℕ). 2 ^ i) e in
    count-is 15 k v (omega arith) (omega (arith, sixteens k)) (omega (arith, sixteens (k + 1)))
