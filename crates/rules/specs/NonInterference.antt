-- Demand 3, as one statement about whole calls: entry refusals, every program, budget and start.
use Rattle.std.specs.Prelude.{ℕ, ◌<◌, ◌≡◌, Bool, true, false, List, [], ◌↔◌, length, get_or}
use Rattle.rules.specs.declared.Instruction.{Instruction}
use Rattle.rules.specs.declared.Refusal.TheVariants.{BadState}
use Rattle.rules.specs.Numbers.{p}
use Rattle.rules.specs.Results.{Result, pass}
use Rattle.rules.specs.Cells.{number_cells}
use Rattle.rules.specs.Step.{State}
use Rattle.rules.specs.Answers.{refusal}
use Rattle.rules.specs.Entry.{Snapshot, GuardedSnapshot, used_addresses, used_numbers, used_moments, used_tape, used_output, used_marks, marked_registers, marked_cells, marks_entry, guarded_entry, environment, state_of}
use Rattle.rules.specs.Calls.{Called, refused_call, paused_after}
use Rattle.rules.specs.MarkRules.{Marking, snapshot_marks}
use Rattle.rules.specs.SinkRules.{ReachesSink, Comes}

-- 'Marked': a register, or a used cell, whose mark is 1
abbrev pub MarkedRegister : GuardedSnapshot → ℕ → Type 0
MarkedRegister g r = get_or (marked_registers g) r false ≡ true

abbrev pub MarkedCell : GuardedSnapshot → ℕ → Type 0
MarkedCell g i = get_or (marked_cells g) i false ≡ true

-- each marked number is below p
pub record MarkedBelow (g : GuardedSnapshot) : Type 0 where
  pub registers : (r : ℕ) → MarkedRegister g r → get_or g.plain.machine.registers r 0 < p
  pub cells : (i : ℕ) → MarkedCell g i → get_or (used_numbers g.plain) i 0 < p

-- nothing is marked
pub record Unmarked (g : GuardedSnapshot) : Type 0 where
  pub registers : (r : ℕ) → MarkedRegister g r → ⊥
  pub cells : (i : ℕ) → MarkedCell g i → ⊥

-- two numbers at one place: equal where it is unmarked, any two where it is marked
abbrev pub EqualUnless : Bool → ℕ → ℕ → Type 0
EqualUnless true v w = Unit {0}
EqualUnless false v w = v ≡ w

-- 'Alike', with the numbers at each place related under the place's mark
pub record Agree (R : Bool → ℕ → ℕ → Type 0) (g h : GuardedSnapshot) : Type 0 where
  pub pc : g.plain.machine.pc ≡ h.plain.machine.pc
  pub clk : g.plain.machine.clk ≡ h.plain.machine.clk
  pub psp : g.plain.machine.psp ≡ h.plain.machine.psp
  pub storage : g.plain.machine.storage_addr ≡ h.plain.machine.storage_addr
  -- counts, and lengths
  pub cell_count : g.plain.machine.cell_count ≡ h.plain.machine.cell_count
  pub tape_count : g.plain.machine.tape_count ≡ h.plain.machine.tape_count
  pub output_count : g.plain.machine.output_count ≡ h.plain.machine.output_count
  pub address_length : length g.plain.addresses ≡ length h.plain.addresses
  pub number_length : length g.plain.numbers ≡ length h.plain.numbers
  pub moment_length : length g.plain.moments ≡ length h.plain.moments
  pub mark_length : length g.marks ≡ length h.marks
  pub tape_length : length g.plain.tape ≡ length h.plain.tape
  pub output_length : length g.plain.output ≡ length h.plain.output
  -- each buffer as far as its count and its length go; nothing is said of what lies beyond
  pub addresses : used_addresses g.plain ≡ used_addresses h.plain
  -- the moments of marked cells too (#103)
  pub moments : used_moments g.plain ≡ used_moments h.plain
  pub marks : used_marks g ≡ used_marks h
  pub tape : used_tape g.plain ≡ used_tape h.plain
  pub output : used_output g.plain ≡ used_output h.plain
  pub numbers : (i : ℕ) → R (get_or (marked_cells g) i false) (get_or (used_numbers g.plain) i 0) (get_or (used_numbers h.plain) i 0)
  -- the ten registers
  pub register_marks : g.extras.registers ≡ h.extras.registers
  pub ten : (length g.plain.machine.registers ≡ 10) × (length h.plain.machine.registers ≡ 10)
  pub registers : (r : ℕ) → R (get_or (marked_registers g) r false) (get_or g.plain.machine.registers r 0) (get_or h.plain.machine.registers r 0)

-- 'Alike'
abbrev pub Alike : GuardedSnapshot → GuardedSnapshot → Type 0
Alike g h = Agree EqualUnless g h

-- the same answer with all that it carries, the same steps, and what is left alike
pub record SameCalls (c d : Called GuardedSnapshot) : Type 0 where
  pub answer : c.answer ≡ d.answer
  pub steps : c.steps ≡ d.steps
  pub left : Alike c.left d.left

-- the call meets 18; '18 after k steps'
abbrev pub MeetsSink : Called GuardedSnapshot → Type 0
MeetsSink c = c.answer ≡ refusal 18 []

abbrev pub SinkAfter : ℕ → Called GuardedSnapshot → Type 0
SinkAfter k c = MeetsSink c × (c.steps ≡ k)

-- a call without its marks
abbrev pub without_marks : Called GuardedSnapshot → Called Snapshot
without_marks c = record { answer = c.answer; steps = c.steps; left = c.left.plain }

-- 'Reaches a listed use': the call passes entry, comes to a state after k steps, and the next step reaches a sink
pub data Reaches : Result (List Instruction) → GuardedSnapshot → ℕ → Type 0 where
  reaches : {program : List Instruction} {g : GuardedSnapshot} {k : ℕ} {s : State number_cells} {t : Marking}
      → guarded_entry g ≡ true
      → Comes (environment program g.plain) (state_of g.plain) (snapshot_marks g) k s t
      → ReachesSink (environment program g.plain) s t
      → Reaches (pass program) g k

-- Of a program as loaded, with a budget: the guarded call beside itself and beside the plain call
pub record NonInterference
    (program : Result (List Instruction))
    (budget : ℕ)
    (guarded : GuardedSnapshot → Called GuardedSnapshot)
    (plain : ℕ → Snapshot → Called Snapshot)
    : Type 0 where
  -- two that start alike but for their marked numbers, each below p, give the same answer and end alike
  pub agrees : (g h : GuardedSnapshot) → Alike g h → MarkedBelow g → MarkedBelow h → SameCalls (guarded g) (guarded h)
  -- one that does not meet 18 is the plain call
  pub transparent : (g : GuardedSnapshot) → marks_entry g ≡ true → (MeetsSink (guarded g) → ⊥)
      → without_marks (guarded g) ≡ plain budget g.plain
  -- one whose marks an entry refuses is refused 3 and leaves everything, unless the program is refused
  pub unfit : (g : GuardedSnapshot) → marks_entry g ≡ false → {instructions : List Instruction} → program ≡ pass instructions
      → guarded g ≡ refused_call BadState g
  -- one that meets 18 after k steps, which is below the budget, leaves what the plain call with budget k leaves: that is e3 after k steps
  pub stops_early : (g : GuardedSnapshot) (k : ℕ) → SinkAfter k (guarded g)
      → (k < budget) × (plain k g.plain ≡ paused_after k (guarded g).left.plain)
  -- 18 after k steps exactly where the step after k steps reaches a sink
  pub exact : (g : GuardedSnapshot) (k : ℕ) → SinkAfter k (guarded g) ↔ ((k < budget) × Reaches program g k)
  -- a start with no marks never meets 18
  pub clean : (g : GuardedSnapshot) → Unmarked g → MeetsSink (guarded g) → ⊥
