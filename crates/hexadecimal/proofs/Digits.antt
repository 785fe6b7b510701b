-- The cases of `digit_of`: each range of characters gives its value, which is below 16.
use Rattle.std.specs.Prelude.{Some, None}
use mathlib.Core.Path.{◌≡◌, refl}
use mathlib.Core.Bool.{Bool, true, false, ◌&&◌}
use Prim.Native.Nat.{ℕ, ◌-◌, ◌<◌, ◌≤◌}
use native.Mathlib.Omega.{arith}
use lib.Dec.{leb}
use borrow.Author.Tests.{le-leb, lt-leb, leb-true}
use Rattle.rules.specs.Numbers.{choose}
use Rattle.rules.specs.Hexadecimal.{digit_of}

module _ (c : ℕ) where
  pub decimal : 48 ≤ c → c < 58 → digit_of c ≡ Some (c - 48)
  unfolding digit_of
  decimal l h = simp (le-leb 48 c l, le-leb c 57 (omega arith))

  pub letter : 97 ≤ c → c < 103 → digit_of c ≡ Some (c - 87)
  unfolding digit_of
  letter l h = simp (le-leb 48 c (omega arith), lt-leb c 57 (omega arith), le-leb 97 c l, le-leb c 102 (omega arith))

  pub digit_lt : (v : ℕ) → digit_of c ≡ Some v → v < 16
  unfolding digit_of
  digit_lt v = go (leb 48 c) (leb c 57) (leb 97 c) (leb c 102) refl refl refl refl
    where
      go : (a b d e : Bool) → leb 48 c ≡ a → leb c 57 ≡ b → leb 97 c ≡ d → leb c 102 ≡ e
          → choose (a && b) (Some (c - 48)) (choose (d && e) (Some (c - 87)) None) ≡ Some v → v < 16
      go true true d e h₀ h₁ h₂ h₃ q = let k : c - 48 ≡ v = cc in omega (arith, leb-true)
      go true false true true h₀ h₁ h₂ h₃ q = let k : c - 87 ≡ v = cc in omega (arith, leb-true)
      go true false true false h₀ h₁ h₂ h₃ q = let z : ◌≡◌ {A = ℕ} 0 1 = cc in omega arith
      go true false false e h₀ h₁ h₂ h₃ q = let z : ◌≡◌ {A = ℕ} 0 1 = cc in omega arith
      go false b true true h₀ h₁ h₂ h₃ q = let k : c - 87 ≡ v = cc in omega (arith, leb-true)
      go false b true false h₀ h₁ h₂ h₃ q = let z : ◌≡◌ {A = ℕ} 0 1 = cc in omega arith
      go false b false e h₀ h₁ h₂ h₃ q = let z : ◌≡◌ {A = ℕ} 0 1 = cc in omega arith
