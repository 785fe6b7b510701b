-- How much `solve` prints: for every input at most 69,703 bytes.
use Rattle.std.specs.Prelude.{ℕ, ◌+◌, ◌*◌, ◌≤◌, List, length}
use Rattle.rules.specs.Solve.{solve}

-- a first line of at most 71 characters: two of the answer, four fields of at most 17, a line feed; and at most 4,096 values of at most 17
abbrev pub SolveFits : Type 0
SolveFits = (input : List ℕ) → length (solve input) ≤ 71 + 4096 * 17
