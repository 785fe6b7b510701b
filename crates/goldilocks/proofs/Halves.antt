-- The product of two numbers by their halves of 32 bits.
use mathlib.Core.Path.{◌≡◌, sym, ap₂, ◌∙◌}
use Prim.Native.Nat.{ℕ, ◌+◌, ◌*◌, ◌/◌, ◌%◌, ◌^◌, ◌≤◌, ◌<◌}
use native.Mathlib.Nat.{mul-le-mul, div-add-mod'}
use native.Mathlib.Omega.{arith}

-- the columns of the product, with their carries
columns : (a₁ a₀ b₁ b₀ q₀ r₀ q r q₁ r₁ : ℕ)
    → a₀ * b₀ ≡ q₀ * 2 ^ 32 + r₀ → a₁ * b₀ + q₀ ≡ q * 2 ^ 32 + r → a₀ * b₁ + r ≡ q₁ * 2 ^ 32 + r₁
    → (a₁ * b₁ + q + q₁) * 2 ^ 64 + (r₁ * 2 ^ 32 + r₀) ≡ (a₁ * 2 ^ 32 + a₀) * (b₁ * 2 ^ 32 + b₀)
columns a₁ a₀ b₁ b₀ q₀ r₀ q r q₁ r₁ e₀ e e₁ = omega arith

-- what the program computes: the lowest column, the two in the middle
abbrev pub col₀ : ℕ → ℕ → ℕ
col₀ u v = u % 2 ^ 32 * (v % 2 ^ 32)

abbrev pub col₁ : ℕ → ℕ → ℕ
col₁ u v = u / 2 ^ 32 * (v % 2 ^ 32) + col₀ u v / 2 ^ 32

abbrev pub col₂ : ℕ → ℕ → ℕ
col₂ u v = u % 2 ^ 32 * (v / 2 ^ 32) + col₁ u v % 2 ^ 32

-- the high word, and the low one
abbrev pub high_of : ℕ → ℕ → ℕ
high_of u v = u / 2 ^ 32 * (v / 2 ^ 32) + col₁ u v / 2 ^ 32 + col₂ u v / 2 ^ 32

abbrev pub low_of : ℕ → ℕ → ℕ
low_of u v = col₂ u v % 2 ^ 32 * 2 ^ 32 + col₀ u v % 2 ^ 32

whole : (u v : ℕ) → high_of u v * 2 ^ 64 + low_of u v ≡ u * v
whole u v =
    columns (u / 2 ^ 32) (u % 2 ^ 32) (v / 2 ^ 32) (v % 2 ^ 32) (col₀ u v / 2 ^ 32) (col₀ u v % 2 ^ 32) (col₁ u v / 2 ^ 32) (col₁ u v % 2 ^ 32) (col₂ u v / 2 ^ 32) (col₂ u v % 2 ^ 32)
    (sym (div-add-mod' (col₀ u v) (2 ^ 32))) (sym (div-add-mod' (col₁ u v) (2 ^ 32))) (sym (div-add-mod' (col₂ u v) (2 ^ 32)))
    ∙ ap₂ (λ (a b : ℕ). a * b) (div-add-mod' u (2 ^ 32)) (div-add-mod' v (2 ^ 32))

-- a number is its two words
words : (n h l : ℕ) → l < 2 ^ 64 → h * 2 ^ 64 + l ≡ n → (h ≡ n / 2 ^ 64) × (l ≡ n % 2 ^ 64)
words n h l k e = (omega arith, omega arith)

pub high_word : (u v : ℕ) → high_of u v ≡ u * v / 2 ^ 64
high_word u v = (words (u * v) (high_of u v) (low_of u v) (omega arith) (whole u v)).0

pub low_word : (u v : ℕ) → low_of u v ≡ u * v % 2 ^ 64
low_word u v = (words (u * v) (high_of u v) (low_of u v) (omega arith) (whole u v)).1

-- the products of two halves
pub record Small (u v : ℕ) : Type 0 where
  pub ll : u % 2 ^ 32 * (v % 2 ^ 32) ≤ 0xFFFF_FFFE_0000_0001
  pub hl : u / 2 ^ 32 * (v % 2 ^ 32) ≤ 0xFFFF_FFFE_0000_0001
  pub lh : u % 2 ^ 32 * (v / 2 ^ 32) ≤ 0xFFFF_FFFE_0000_0001
  pub hh : u / 2 ^ 32 * (v / 2 ^ 32) ≤ 0xFFFF_FFFE_0000_0001

pub small : {u v : ℕ} → u < 2 ^ 64 → v < 2 ^ 64 → Small u v
small {u} {v} hu hv =
    let u₀ : u % 2 ^ 32 ≤ 0xFFFF_FFFF = omega arith in
    let u₁ : u / 2 ^ 32 ≤ 0xFFFF_FFFF = omega arith in
    let v₀ : v % 2 ^ 32 ≤ 0xFFFF_FFFF = omega arith in
    let v₁ : v / 2 ^ 32 ≤ 0xFFFF_FFFF = omega arith in
    record { ll = mul-le-mul u₀ v₀; hl = mul-le-mul u₁ v₀; lh = mul-le-mul u₀ v₁; hh = mul-le-mul u₁ v₁ }
