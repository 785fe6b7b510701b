-- Memory as the buffers hold it: a list of addresses, strictly rising, each with its content.
use Rattle.std.specs.Prelude.{ℕ, zero, suc, ◌≤◌, List, [], ◌∷◌, ltb, eqb}
use Rattle.rules.specs.declared.Held.{Held}
use Rattle.rules.specs.Numbers.{choose}
use Rattle.rules.specs.Memory.{Content, absent, present, Memory}

pub data Cells (A : Type 0) : Type 0 where
  none : Cells A
  cell : ℕ → A → Cells A → Cells A

module _ {A : Type 0} where
  abbrev pub get : Cells A → ℕ → Content A
  get none a = absent
  get (cell b w c) a = choose (eqb b a) (present w) (get c a)

  abbrev pub put : Cells A → ℕ → A → Cells A
  put none a v = cell a v none
  put (cell b w c) a v = choose (ltb a b) (cell a v (cell b w c)) (choose (eqb a b) (cell a v c) (cell b w (put c a v)))

  abbrev pub count : Cells A → ℕ
  count none = zero
  count (cell a v c) = suc (count c)

  abbrev pub addresses : Cells A → List ℕ
  addresses none = []
  addresses (cell a v c) = a ∷ addresses c

  abbrev pub contents : Cells A → List A
  contents none = []
  contents (cell a v c) = v ∷ contents c

  -- the cells of a list of addresses and one of contents
  abbrev pub zipped : List ℕ → List A → Cells A
  zipped [] vs = none
  zipped (a ∷ l) [] = none
  zipped (a ∷ l) (v ∷ vs) = cell a v (zipped l vs)

  -- strictly rising, each address at least n
  abbrev pub RisingFrom : ℕ → Cells A → Type 0
  RisingFrom n none = Unit {0}
  RisingFrom n (cell a v c) = (n ≤ a) × RisingFrom (suc a) c

  abbrev pub Rising : Cells A → Type 0
  Rising c = RisingFrom 0 c

abbrev pub cells : (A : Type 0) → Memory A
cells A = record { Mem = Cells A; get = get; put = put; count = count }

-- the memory of numbers, each with its moment, and that of marks: 1 where the cell is marked, else 0
abbrev pub number_cells : Memory Held
number_cells = cells Held

abbrev pub mark_cells : Memory ℕ
mark_cells = cells ℕ
