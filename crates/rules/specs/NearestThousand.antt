-- What kilosteps are, however they are computed: the nearest thousand, and of two that are as near the even one. Document 02, #104.
use Rattle.std.specs.Prelude.{ℕ, ◌+◌, ◌*◌, ◌-◌, ◌%◌, ◌≤◌, ◌≡◌}
use Rattle.rules.specs.Solve.{kilosteps}

-- by how much two numbers differ; subtraction stops at 0, so that one of the terms is 0
abbrev pub difference : ℕ → ℕ → ℕ
difference a b = (a - b) + (b - a)

-- k thousands are the nearest to clk: they differ by at most 500, and where they differ by exactly 500, k is even
pub record Nearest (clk k : ℕ) : Type 0 where
  pub near : difference (1000 * k) clk ≤ 500
  pub even_at_half : difference (1000 * k) clk ≡ 500 → k % 2 ≡ 0

-- This leaves nothing free: the definition's number has both properties, and there is no other. No thousand is nearer.
pub record KilostepsNearest : Type 0 where
  pub nearest : (clk : ℕ) → Nearest clk (kilosteps clk)
  pub unique : {clk k j : ℕ} → Nearest clk k → Nearest clk j → k ≡ j
  pub none_nearer : {clk k : ℕ} → Nearest clk k → (j : ℕ) → difference (1000 * k) clk ≤ difference (1000 * j) clk
