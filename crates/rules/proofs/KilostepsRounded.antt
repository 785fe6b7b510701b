-- Kilosteps are the nearest thousand, at an exact half the even one.
use Prim.Native.Nat.{ℕ, ◌+◌, ◌*◌, ◌/◌, ◌%◌, ◌≤◌, ◌<◌}
use mathlib.Core.Path.{◌≡◌, refl}
use mathlib.Core.Bool.{Bool, true, false}
use native.Mathlib.Omega.{arith}
use borrow.Author.Tests.{lt-ltb, le-ltb, ltb-true, ltb-false}
use lib.Dec.{ltb}
use Rattle.rules.specs.Solve.{kilosteps}
use Rattle.rules.specs.NearestThousand.{difference, Nearest, KilostepsNearest}

module _ (clk : ℕ) where
  -- the definition's three cases
  pub below_half : clk % 1000 < 500 → kilosteps clk ≡ clk / 1000
  unfolding kilosteps
  below_half h = rw (lt-ltb (clk % 1000) 500 h)

  pub above_half : 500 < clk % 1000 → kilosteps clk ≡ clk / 1000 + 1
  unfolding kilosteps
  above_half h = rw (le-ltb (clk % 1000) 500 (omega arith), lt-ltb 500 (clk % 1000) h)

  pub at-half : clk % 1000 ≡ 500 → kilosteps clk ≡ clk / 1000 + clk / 1000 % 2
  unfolding kilosteps
  at-half h = rw (le-ltb (clk % 1000) 500 (omega arith), le-ltb 500 (clk % 1000) (omega arith))

  nearest : Nearest clk (kilosteps clk)
  nearest = go (ltb (clk % 1000) 500) refl (ltb 500 (clk % 1000)) refl
    where
      go : (b : Bool) → ltb (clk % 1000) 500 ≡ b → (c : Bool) → ltb 500 (clk % 1000) ≡ c → Nearest clk (kilosteps clk)
      go true e c f =
          let h = ltb-true (clk % 1000) 500 e in
          let is = below_half h in
          record { near = omega arith; even_at_half = λ half. omega arith }
      go false e true f =
          let h = ltb-true 500 (clk % 1000) f in
          let is = above_half h in
          record { near = omega arith; even_at_half = λ half. omega arith }
      go false e false f =
          let h : clk % 1000 ≡ 500 = omega (arith, ltb-false (clk % 1000) 500 e, ltb-false 500 (clk % 1000) f) in
          let is = at-half h in
          record { near = omega arith; even_at_half = λ half. omega arith }

-- two thousands that differ are as near only at a half, and not both even
not-below : {clk k j : ℕ} → Nearest clk k → Nearest clk j → k < j → ⊥
not-below {clk} {k} {j} n m h =
    let k_near = n.near in
    let j_near = m.near in
    let next : j ≡ k + 1 = omega arith in
    let k_even = n.even_at_half (omega arith) in
    let j_even = m.even_at_half (omega arith) in
    omega arith

unique : {clk k j : ℕ} → Nearest clk k → Nearest clk j → k ≡ j
unique n m = omega (arith, not-below n m, not-below m n)

none-nearer : {clk k : ℕ} → Nearest clk k → (j : ℕ) → difference (1000 * k) clk ≤ difference (1000 * j) clk
none-nearer {clk} {k} n j = go (ltb j k) refl (ltb k j) refl
  where
    go : (b : Bool) → ltb j k ≡ b → (c : Bool) → ltb k j ≡ c → difference (1000 * k) clk ≤ difference (1000 * j) clk
    go true e c f = let h = ltb-true j k e in let near = n.near in omega arith
    go false e true f = let h = ltb-true k j f in let near = n.near in omega arith
    go false e false f = let h : k ≡ j = omega (arith, ltb-false j k e, ltb-false k j f) in omega arith

pub kilosteps-nearest : KilostepsNearest
kilosteps-nearest = record { nearest = nearest; unique = unique; none_nearer = none-nearer }
