-- Digits in the low halves of a word's fields, moved next to each other: `(v + v / D) & mask`, three times.
use mathlib.Core.Path.{◌≡◌, sym, ap, ap₂, ◌∙◌}
use mathlib.Core.List.{List, [], ◌∷◌}
use Prim.Native.Nat.{ℕ, zero, suc, ◌+◌, ◌-◌, ◌*◌, ◌/◌, ◌%◌, ◌^◌, ◌<◌}
use native.Mathlib.Nat.{mod-lt, lt_of_lt_of_le, le-add_right}
use native.Mathlib.Omega.{arith}
use lib.Arith.{digits_mod}
use lib.Bits.{bit_and, and_block, and_mask, and_zero_r}
use lib.Pow.{pow_pos, pow_mono, split, mod-mod-pow, ones_lt}

-- digits in base B, the lowest first
unfoldable pub pack : ℕ → List ℕ → ℕ
pack B [] = 0
pack B (d ∷ ds) = pack B ds * B + d

-- each two digits in base D as one
unfoldable pub pairs : ℕ → List ℕ → List ℕ
pairs D [] = []
pairs D (a ∷ []) = []
pairs D (a ∷ (b ∷ ds)) = (b * D + a) ∷ pairs D ds

-- n times two digits in base D
pub data Twos (D : ℕ) : ℕ → List ℕ → Type 0 where
  none : Twos D zero []
  two : {n a b : ℕ} {ds : List ℕ} → a < D → b < D → Twos D n ds → Twos D (suc n) (a ∷ (b ∷ ds))

-- the mask of m fields of k + k bits: the k low bits of each
unfoldable pub evens : ℕ → ℕ → ℕ
evens k zero = zero
evens k (suc m) = evens k m * 2 ^ (k + k) + (2 ^ k - 1)

-- the mask's lowest field keeps the k low bits of y, and the rest of the mask meets the rest of y
low_field : (k y e : ℕ) → bit_and y (e * 2 ^ (k + k) + (2 ^ k - 1)) ≡ bit_and (y / 2 ^ (k + k)) e * 2 ^ (k + k) + y % 2 ^ k
low_field k y e =
    ap (λ (n : ℕ). bit_and n (e * 2 ^ (k + k) + (2 ^ k - 1))) (sym (split y (k + k)))
    ∙ and_block (k + k) (y / 2 ^ (k + k)) e (y % 2 ^ (k + k)) (2 ^ k - 1) (mod-lt y (pow_pos (k + k))) (lt_of_lt_of_le (ones_lt k) (pow_mono (le-add_right k k)))
    ∙ ap (λ (n : ℕ). bit_and (y / 2 ^ (k + k)) e * 2 ^ (k + k) + n) (and_mask (y % 2 ^ (k + k)) k ∙ mod-mod-pow y k k)

-- two fields of k bits over a number v₁, and the same with the upper one moved down by a digit
abbrev pub over : ℕ → ℕ → ℕ → ℕ → ℕ
over k v₁ b a = (v₁ * 2 ^ k + b) * 2 ^ k + a

abbrev pub moved : ℕ → ℕ → ℕ
moved D v = v + v / D

module _ (k D : ℕ) (hi : (v₁ b a : ℕ) → a < D → b < D → moved D (over k v₁ b a) / 2 ^ (k + k) ≡ moved D v₁)
    (lo : (v₁ b a : ℕ) → a < D → b < D → moved D (over k v₁ b a) % 2 ^ k ≡ b * D + a) where
  squeeze : {n : ℕ} {ds : List ℕ} → Twos D n ds → bit_and (moved D (pack (2 ^ k) ds)) (evens k n) ≡ pack (2 ^ (k + k)) (pairs D ds)
  unfolding pack pairs evens
  squeeze none = and_zero_r (moved D 0)
  squeeze (two {n} {a} {b} {ds} ha hb t) =
      low_field k (moved D (over k (pack (2 ^ k) ds) b a)) (evens k n)
      ∙ ap₂ (λ (p q : ℕ). p * 2 ^ (k + k) + q) (ap (λ (z : ℕ). bit_and z (evens k n)) (hi (pack (2 ^ k) ds) b a ha hb) ∙ squeeze t) (lo (pack (2 ^ k) ds) b a ha hb)

mod-is : (q : ℕ) {n m r : ℕ} → n ≡ q * m + r → r < m → n % m ≡ r
mod-is q {n} {m} {r} e h = ap (λ (x : ℕ). x % m) e ∙ digits_mod q h

-- at fields of 8, 16 and 32 bits
pub squeeze₈ : {n : ℕ} {ds : List ℕ} → Twos 16 n ds → bit_and (moved 16 (pack 256 ds)) (evens 8 n) ≡ pack 65536 (pairs 16 ds)
squeeze₈ = squeeze 8 16 (λ v₁ b a ha hb. omega arith) (λ v₁ b a ha hb. mod-is (v₁ * 256 + b + v₁ * 16) (omega arith) (omega arith))

pub squeeze₁₆ : {n : ℕ} {ds : List ℕ} → Twos 256 n ds → bit_and (moved 256 (pack 65536 ds)) (evens 16 n) ≡ pack (2 ^ 32) (pairs 256 ds)
squeeze₁₆ = squeeze 16 256 (λ v₁ b a ha hb. omega arith) (λ v₁ b a ha hb. mod-is (v₁ * 65536 + b + v₁ * 256) (omega arith) (omega arith))

pub squeeze₃₂ : {n : ℕ} {ds : List ℕ} → Twos 65536 n ds → bit_and (moved 65536 (pack (2 ^ 32) ds)) (evens 32 n) ≡ pack (2 ^ 64) (pairs 65536 ds)
squeeze₃₂ = squeeze 32 65536 (λ v₁ b a ha hb. omega arith) (λ v₁ b a ha hb. mod-is (v₁ * 2 ^ 32 + b + v₁ * 65536) (omega arith) (omega arith))

-- eight digits of four bits, one in each byte, as one number
pub gather : (a₀ a₁ a₂ a₃ a₄ a₅ a₆ a₇ : ℕ) → a₀ < 16 → a₁ < 16 → a₂ < 16 → a₃ < 16 → a₄ < 16 → a₅ < 16 → a₆ < 16 → a₇ < 16 → (v : ℕ) → v ≡ pack 256 (a₀ ∷ a₁ ∷ a₂ ∷ a₃ ∷ a₄ ∷ a₅ ∷ a₆ ∷ a₇ ∷ [])
    → bit_and (moved 65536 (bit_and (moved 256 (bit_and (moved 16 v) 0x00ff_00ff_00ff_00ff)) 0x0000_ffff_0000_ffff)) 0xffff_ffff ≡ pack 16 (a₀ ∷ a₁ ∷ a₂ ∷ a₃ ∷ a₄ ∷ a₅ ∷ a₆ ∷ a₇ ∷ [])
unfolding pack pairs evens
gather a₀ a₁ a₂ a₃ a₄ a₅ a₆ a₇ h₀ h₁ h₂ h₃ h₄ h₅ h₆ h₇ v e =
    let s₁ = ap (λ (x : ℕ). bit_and (moved 16 x) 0x00ff_00ff_00ff_00ff) e ∙ squeeze₈ (two h₀ h₁ (two h₂ h₃ (two h₄ h₅ (two h₆ h₇ none)))) in
    let s₂ = ap (λ (x : ℕ). bit_and (moved 256 x) 0x0000_ffff_0000_ffff) s₁ ∙ squeeze₁₆ (two {a = a₁ * 16 + a₀} {b = a₃ * 16 + a₂} (omega arith) (omega arith) (two {a = a₅ * 16 + a₄} {b = a₇ * 16 + a₆} (omega arith) (omega arith) none)) in
    let s₃ = ap (λ (x : ℕ). bit_and (moved 65536 x) 0xffff_ffff) s₂ ∙ squeeze₃₂ (two {a = (a₃ * 16 + a₂) * 256 + (a₁ * 16 + a₀)} {b = (a₇ * 16 + a₆) * 256 + (a₅ * 16 + a₄)} (omega arith) (omega arith) none) in
    s₃ ∙ last a₀ a₁ a₂ a₃ a₄ a₅ a₆ a₇
  where
    last : (a₀ a₁ a₂ a₃ a₄ a₅ a₆ a₇ : ℕ) → 0 * 2 ^ 64 + (((a₇ * 16 + a₆) * 256 + (a₅ * 16 + a₄)) * 65536 + ((a₃ * 16 + a₂) * 256 + (a₁ * 16 + a₀)))
        ≡ (((((((0 * 16 + a₇) * 16 + a₆) * 16 + a₅) * 16 + a₄) * 16 + a₃) * 16 + a₂) * 16 + a₁) * 16 + a₀
    last a₀ a₁ a₂ a₃ a₄ a₅ a₆ a₇ = omega arith
