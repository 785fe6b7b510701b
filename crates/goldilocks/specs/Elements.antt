-- The answer of the functions that take any numbers.
use Rattle.std.specs.Prelude.{ℕ, Bool, true, false, Option, Some, None}
use Rattle.goldilocks.specs.declared.GoldilocksField.{GoldilocksField}

-- the element of a number, where a test passes
abbrev pub element_where : Bool → ℕ → Option GoldilocksField
element_where true n = Some (record { value = n })
element_where false n = None
