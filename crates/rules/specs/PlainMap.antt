-- Memory as a plain map: what each address holds, and how many addresses hold something.
use Rattle.std.specs.Prelude.{ℕ, suc, Bool, true, false, eqb}
use Rattle.rules.specs.declared.Held.{Held}
use Rattle.rules.specs.Numbers.{choose}
use Rattle.rules.specs.Memory.{Content, absent, present, Memory}

pub record PlainMap (A : Type 0) : Type 0 where
  pub at : ℕ → Content A
  pub size : ℕ

abbrev pub is_present : {A : Type 0} → Content A → Bool
is_present absent = false
is_present (present v) = true

-- one more where nothing stood there
abbrev pub map_put : {A : Type 0} → PlainMap A → ℕ → A → PlainMap A
map_put m a v =
    record {
      at = λ b. choose (eqb a b) (present v) (m.at b);
      size = choose (is_present (m.at a)) m.size (suc m.size);
    }

abbrev pub plain_map : (A : Type 0) → Memory A
plain_map A = record { Mem = PlainMap A; get = λ m a. m.at a; put = map_put; count = λ m. m.size }

-- the map of numbers, each with its moment, and that of marks
abbrev pub number_map : Memory Held
number_map = plain_map Held

abbrev pub mark_map : Memory ℕ
mark_map = plain_map ℕ
