-- The digits that are written of a word read back as that word.
use Rattle.std.specs.Prelude.{Some}
use mathlib.Core.Path.{◌≡◌, refl, ap, ◌∙◌}
use mathlib.Core.Bool.{Bool, true, false}
use Prim.Native.Nat.{ℕ, zero, suc, ◌+◌, ◌*◌, ◌/◌, ◌%◌, ◌^◌, ◌<◌, ◌≤◌}
use native.Mathlib.Nat.{pow-suc, mod-one, mod-lt, mod-eq_of_lt, one-le-pow}
use native.Mathlib.Omega.{arith}
use lib.Arith.{mod-mul}
use lib.Dec.{ltb}
use lib.ListN.{length, length-append}
use borrow.Author.Tests.{eq-eqb, ltb-true, ltb-false}
use Rattle.rules.specs.Numbers.{choose}
use Rattle.rules.specs.Hexadecimal.{digit_of, digits_of, word_of, digit_char, low_digits, digits16, digit_count, shortest_hex}
use Rattle.eight_digits.proofs.Appending.{digits-snoc}
use Rattle.hexadecimal.proofs.Digits.{decimal, letter}

pub char-digit : (d : ℕ) → d < 16 → digit_of (digit_char d) ≡ Some d
char-digit d h = go (ltb d 10) refl
  where
    go : (b : Bool) → ltb d 10 ≡ b → digit_of (choose b (d + 48) (d + 87)) ≡ Some d
    go true l = decimal (d + 48) (omega arith) (omega (arith, ltb-true)) ∙ ap Some (omega arith)
    go false l = letter (d + 87) (omega (arith, ltb-false)) (omega arith) ∙ ap Some (omega arith)

pub low-length : (n v : ℕ) → length (low_digits n v) ≡ n
unfolding low_digits
low-length zero v = refl
low-length (suc n) v = length-append (low_digits n (v / 16)) _ ∙ omega (arith, low-length n (v / 16))

pub low_read : (n m v : ℕ) → digits_of m (low_digits n v) ≡ Some (m * 16 ^ n + v % 16 ^ n)
unfolding low_digits digits_of
low_read zero m v = ap Some (omega (arith, mod-one v))
low_read (suc n) m v =
    digits-snoc (low_digits n (v / 16)) m (digit_char (v % 16))
    ∙ rw (low_read n m (v / 16), char-digit (v % 16) (mod-lt v (omega arith)), pow-suc 16 n, mod-mul v {m = 16 ^ n} {c = 16} (one-le-pow n 16 (omega arith)) (omega arith))
    (ap Some (omega arith))

pub word_read : (v : ℕ) → v < 2 ^ 64 → word_of (digits16 v) ≡ Some v
unfolding word_of
word_read v h =
    simp (eq-eqb (length (digits16 v)) 16 (low-length 16 v)) (low_read 16 0 v ∙ ap Some (omega (arith, mod-eq_of_lt {n = v} {m = 16 ^ 16} h)))

-- a number is written with as many digits as it needs
pub count-enough : (n v : ℕ) → v < 16 ^ suc n → v < 16 ^ digit_count n v
unfolding digit_count
count-enough zero v h = h
count-enough (suc n) v h = go (count-enough n (v / 16)) (ltb v 16) refl
  where
    go : (v / 16 < 16 ^ suc n → v / 16 < 16 ^ digit_count n (v / 16)) → (b : Bool) → ltb v 16 ≡ b → v < 16 ^ choose b 1 (suc (digit_count n (v / 16)))
    go ih true l = ltb-true v 16 l
    go ih false l =
        let k : v / 16 < 16 ^ suc n = omega (arith, pow-suc 16 (suc n)) in
        rw (pow-suc 16 (digit_count n (v / 16))) (omega (arith, ih k))

-- and with no more: the first digit of a number above 0 is not 0
pub count-least : (n v : ℕ) → 0 < v → 16 ^ digit_count n v ≤ v * 16
unfolding digit_count
count-least zero v h = omega arith
count-least (suc n) v h = go (count-least n (v / 16)) (ltb v 16) refl
  where
    go : (0 < v / 16 → 16 ^ digit_count n (v / 16) ≤ v / 16 * 16) → (b : Bool) → ltb v 16 ≡ b → 16 ^ choose b 1 (suc (digit_count n (v / 16))) ≤ v * 16
    go ih true l = omega arith
    go ih false l =
        let k : 0 < v / 16 = omega (arith, ltb-false) in
        rw (pow-suc 16 (digit_count n (v / 16))) (omega (arith, ih k))

pub shortest-read : (v : ℕ) → v < 2 ^ 64 → digits_of 0 (shortest_hex v) ≡ Some v
unfolding shortest_hex
shortest-read v h = low_read (digit_count 15 v) 0 v ∙ ap Some (omega (arith, mod-eq_of_lt (count-enough 15 v h)))
