-- Sound states: what entry establishes and every step keeps.
use Rattle.std.specs.Prelude.{ℕ, ◌≤◌, ◌<◌, ◌≡◌, true, List, length, get_or, take}
use Rattle.rules.specs.declared.Instruction.{Instruction}
use Rattle.rules.specs.declared.Held.{Held}
use Rattle.rules.specs.Numbers.{p, heap_end}
use Rattle.rules.specs.Results.{pass, passes}
use Rattle.rules.specs.Memory.{present}
use Rattle.rules.specs.Cells as Cells
use Rattle.rules.specs.Cells.{Cells, get, count, Rising, number_cells, mark_cells}
use Rattle.rules.specs.Step as Plain
use Rattle.rules.specs.Step.{Environment, State, Next}
use Rattle.rules.specs.Guarded as Guarded
use Rattle.rules.specs.Guarded.{register_mark, cell_mark, GuardedState, GuardedNext}
use Rattle.rules.specs.Entry.{Snapshot, GuardedSnapshot, plain_entry, guarded_entry, environment, state_of, guarded_state_of}

-- addresses rise; each present cell lies in the stack or the heap and holds a number that a cell can hold, and a moment at most clk
pub record SoundCells (clk : ℕ) (c : Cells Held) : Type 0 where
  pub rising : Rising c
  pub in_heap : (a : ℕ) (h : Held) → get c a ≡ present h → a < heap_end
  pub storable : (a : ℕ) (h : Held) → get c a ≡ present h → h.number ≤ p
  pub not_later : (a : ℕ) (h : Held) → get c a ≡ present h → h.moment ≤ clk

pub record Sound (e : Environment) (s : State number_cells) : Type 0 where
  pub ten : length s.registers ≡ 10
  pub cells : SoundCells s.clk s.cells
  -- everything fits its buffer
  pub cells_fit : count s.cells ≤ e.cell_capacity
  pub tape_fits : length s.tape ≤ e.tape_capacity
  pub output_fits : length s.output ≤ e.output_capacity
  pub written_fits : length s.written ≤ e.output_capacity
  -- the output is the first part of what stands in its buffer
  pub first : take (length s.output) s.written ≡ s.output

pub record GuardedSound (e : Environment) (q : GuardedState number_cells mark_cells) : Type 0 where
  pub plain : Sound e q.plain
  pub ten : length q.marks.registers ≡ 10
  -- each present cell, and no other, has a mark, 0 or 1
  pub addresses : Cells.addresses q.marks.cells ≡ Cells.addresses q.plain.cells
  pub zero_or_one : (a t : ℕ) → get q.marks.cells a ≡ present t → t ≤ 1
  -- each marked number is below p
  pub registers_below : (r : ℕ) → register_mark q.marks.registers r ≡ true → get_or q.plain.registers r 0 < p
  pub cells_below : (a : ℕ) (h : Held) → cell_mark mark_cells q.marks.cells a ≡ true → get q.plain.cells a ≡ present h → h.number < p

-- The theorems: a step from a sound state leaves a sound one, and so does every run, refused or not

pub record KeepsSound (e : Environment) : Type 0 where
  pub step : (s : State number_cells) → Sound e s → (n : Next number_cells) → Plain.step number_cells e s ≡ pass n → Sound e n.state
  pub run : (budget : ℕ) (s : State number_cells) → Sound e s → Sound e (Plain.run number_cells e budget s).state
  pub guarded_step : (q : GuardedState number_cells mark_cells) → GuardedSound e q → (n : GuardedNext number_cells mark_cells) → Guarded.guarded_step number_cells mark_cells e q ≡ passes n
      → GuardedSound e (record { plain = n.next.state; marks = n.marks })
  pub guarded_run : (budget : ℕ) (q : GuardedState number_cells mark_cells) → GuardedSound e q → GuardedSound e (Guarded.guarded_run number_cells mark_cells e budget q).state

-- what passes entry stands for a sound state; a machine has ten registers by its type
pub record EntersSound (program : List Instruction) : Type 0 where
  pub plain : (s : Snapshot) → length s.machine.registers ≡ 10 → plain_entry s ≡ true → Sound (environment program s) (state_of s)
  pub guarded : (g : GuardedSnapshot) → length g.plain.machine.registers ≡ 10 → guarded_entry g ≡ true
      → GuardedSound (environment program g.plain) (guarded_state_of g)
