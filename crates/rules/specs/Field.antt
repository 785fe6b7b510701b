-- Arithmetic in the field of p elements: the numbers below p.
use Rattle.std.specs.Prelude.{ℕ, ◌+◌, ◌*◌, ◌-◌, ◌%◌, Bool, ltb}
use Rattle.rules.specs.Numbers.{p}

abbrev pub is_element : ℕ → Bool
is_element n = ltb n p

abbrev pub field_add : ℕ → ℕ → ℕ
field_add a b = (a + b) % p

abbrev pub field_mul : ℕ → ℕ → ℕ
field_mul a b = (a * b) % p

-- what NOT gives
abbrev pub field_complement : ℕ → ℕ
field_complement a = p - 1 - a
