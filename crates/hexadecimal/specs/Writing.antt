-- Writing characters into a buffer, from a place on: all of them, or none where they do not fit.
use Rattle.std.specs.Prelude.{ℕ, ◌+◌, ◌≡◌, Bool, List, ◌++◌, leb, length, take, drop, Option, Some, None}
use Rattle.rules.specs.Numbers.{choose}

abbrev pub fits : List ℕ → ℕ → List ℕ → Bool
fits buffer at cs = leb (at + length cs) (length buffer)

-- the buffer with the characters from `at` on
unfoldable pub overlay_at : List ℕ → ℕ → List ℕ → List ℕ
overlay_at buffer at cs = take at buffer ++ (cs ++ drop (at + length cs) buffer)

-- the answer, and the buffer afterwards
pub record Writes (cs buffer : List ℕ) (at : ℕ) (r : Option ℕ) (after : List ℕ) : Type 0 where
  pub answer : r ≡ choose (fits buffer at cs) (Some (at + length cs)) None
  pub written : after ≡ choose (fits buffer at cs) (overlay_at buffer at cs) buffer
