-- Remainders modulo p, by multiples of p that are given: 2^64 = p + 2^32 - 1, and 2^96 + 1 = (2^32 + 1) * p.
use mathlib.Core.Path.{◌≡◌, sym, ap, ◌∙◌}
use Prim.Native.Nat.{ℕ, ◌+◌, ◌*◌, ◌/◌, ◌%◌, ◌^◌, ◌<◌}
use native.Mathlib.Nat.{add-mul-mod_self_right, mod-eq_of_lt}
use native.Mathlib.Omega.{arith}
use Rattle.rules.specs.Numbers.{p}

pub same-mod : (a b i j : ℕ) → a + i * p ≡ b + j * p → a % p ≡ b % p
same-mod a b i j e = sym (add-mul-mod_self_right a i p) ∙ ap (λ (n : ℕ). n % p) e ∙ add-mul-mod_self_right b j p

pub is-mod : (r n k : ℕ) → r < p → r + k * p ≡ n → r ≡ n % p
is-mod r n k h e = sym (mod-eq_of_lt h) ∙ sym (add-mul-mod_self_right r k p) ∙ ap (λ (m : ℕ). m % p) e

-- what `reduce` goes by: high is h₁ * 2^32 + h₀, and t is low - h₁
pub fold : (t h₁ h₀ low : ℕ) → (t + h₁) % p ≡ low % p → (t + h₀ * 0xFFFF_FFFF) % p ≡ ((h₁ * 2 ^ 32 + h₀) * 2 ^ 64 + low) % p
unfolding p
fold t h₁ h₀ low e =
    same-mod (t + h₀ * 0xFFFF_FFFF) ((h₁ * 2 ^ 32 + h₀) * 2 ^ 64 + low) (h₀ + h₁ * 0x1_0000_0001 + low / p) ((t + h₁) / p) (omega arith)
