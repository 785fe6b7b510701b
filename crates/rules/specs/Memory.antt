-- Memory as the rules know it: by get, put and count alone; and what a present cell holds. Document 02, #103.
use Rattle.std.specs.Prelude.{ℕ, List, [], ◌∷◌, map, ltb}
use Rattle.rules.specs.declared.Held.{Held}
use Rattle.rules.specs.Numbers.{stack_end, heap_end, p, choose}

-- what stands at an address
pub data Content (A : Type 0) : Type 0 where
  absent : Content A
  present : A → Content A

pub record Memory (A : Type 0) : Type 1 where
  pub Mem : Type 0
  pub get : Mem → ℕ → Content A
  pub put : Mem → ℕ → A → Mem
  pub count : Mem → ℕ

-- the end of the region that an address below p lies in
abbrev pub region_end : ℕ → ℕ
region_end a = choose (ltb a stack_end) stack_end (choose (ltb a heap_end) heap_end p)

-- What a present cell holds: a number, and the clk before the step that last wrote it, its moment (#103). A cell that is handed in brings
-- its own.

abbrev pub held : ℕ → ℕ → Held
held n m = record { number = n; moment = m }

abbrev pub numbers_of : List Held → List ℕ
numbers_of hs = map (λ h. h.number) hs

abbrev pub moments_of : List Held → List ℕ
moments_of hs = map (λ h. h.moment) hs

-- of two buffers: numbers, and beside each its moment
abbrev pub held_of : List ℕ → List ℕ → List Held
held_of [] ms = []
held_of (n ∷ ns) [] = []
held_of (n ∷ ns) (m ∷ ms) = held n m ∷ held_of ns ms
