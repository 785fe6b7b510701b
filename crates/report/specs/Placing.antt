-- Characters that stand in a buffer from a place on, where they are known to fit.
use Rattle.std.specs.Prelude.{ℕ, ◌+◌, ◌≡◌, List, length}
use Rattle.hexadecimal.specs.Writing.{overlay_at}

-- the place after the last of them, and the buffer afterwards
pub record Placed (cs buffer : List ℕ) (at next : ℕ) (after : List ℕ) : Type 0 where
  pub ends : next ≡ at + length cs
  pub written : after ≡ overlay_at buffer at cs
