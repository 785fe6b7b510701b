-- When a cell got its number: the first sentences of document 02, #103, about steps and whole calls. What a step stores stands here by
-- opcode, beside `operate`. That reading gives both is in Step, refusal 3 in Entry, soundness in Soundness, 'alike' in NonInterference, and
-- that a traced call leaves what the plain call leaves in crate sheets.
use Rattle.std.specs.Prelude.{ℕ, zero, suc, ◌+◌, ◌-◌, ◌<◌, ◌≡◌, true, List, length, get_or}
use Rattle.rules.specs.declared.OlaOpcode.{OlaOpcode}
use Rattle.rules.specs.declared.OlaOpcode.TheVariants as O
use Rattle.rules.specs.declared.Instruction.{Instruction}
use Rattle.rules.specs.declared.Held.{Held}
use Rattle.rules.specs.Results.{Result, pass, passes, bind}
use Rattle.rules.specs.Field.{field_add}
use Rattle.rules.specs.Memory.{Content, present, held}
use Rattle.rules.specs.Cells.{get, number_cells, mark_cells}
use Rattle.rules.specs.Operands.{Operands}
use Rattle.rules.specs.Step as Plain
use Rattle.rules.specs.Step.{Environment, State, Next, r9, next_pc, tape_values}
use Rattle.rules.specs.Guarded as Guarded
use Rattle.rules.specs.Guarded.{GuardedState, GuardedNext}
use Rattle.rules.specs.Entry.{Snapshot, GuardedSnapshot, plain_entry, guarded_entry, environment, state_of}
use Rattle.rules.specs.Calls.{plain_call, guarded_call}
use Rattle.rules.specs.SinkRules.{InstructionRead}

-- One step

-- what it stores, of an instruction from the state s with the operands o: an address, and a number
pub data Stores (i : Instruction) (s : State number_cells) (o : Operands) : OlaOpcode → ℕ → ℕ → Type 0 where
  call : Stores i s o O.Call (r9 number_cells s - 1) (next_pc number_cells s i)
  mstore : Stores i s o O.Mstore (field_add o.op0 o.op1) (get_or s.registers o.dst 0)
  tload : {k : ℕ} → k < length (tape_values o.op0 o.op1 s.tape)
      → Stores i s o O.Tload (o.dst + k) (get_or (tape_values o.op0 o.op1 s.tape) k 0)

-- the accepted step from s to n stores a number to an address
pub data StepStores (e : Environment) (s : State number_cells) (n : Next number_cells) (a v : ℕ) : Type 0 where
  stores : {i : Instruction} {o : Operands} → InstructionRead e s i o → Plain.step number_cells e s ≡ pass n → Stores i s o i.opcode a v
      → StepStores e s n a v

-- what it leaves
pub record StepMoments (e : Environment) (s : State number_cells) (n : Next number_cells) : Type 0 where
  -- each cell that it stores has its number, and the clk before the step, also where that number stood there
  pub stored : (a v : ℕ) → StepStores e s n a v → get n.state.cells a ≡ present (held v s.clk)
  -- which lies below the clk after it
  pub below : s.clk < n.state.clk
  -- every other cell is unchanged
  pub kept : (a : ℕ) → ((v : ℕ) → StepStores e s n a v → ⊥) → get n.state.cells a ≡ get s.cells a

-- Several steps

-- the state after k accepted steps
unfoldable pub steps_from : Environment → ℕ → State number_cells → Result (State number_cells)
steps_from e zero s = pass s
steps_from e (suc k) s = bind (Plain.step number_cells e s) λ n. steps_from e k n.state

-- the accepted step that follows k steps stores a number to an address; with it goes the clk before that step
pub data StoresAfter (e : Environment) (s : State number_cells) (k a : ℕ) : Held → Type 0 where
  stores-after : {t : State number_cells} {n : Next number_cells} {v : ℕ} → steps_from e k s ≡ pass t → StepStores e t n a v
      → StoresAfter e s k a (held v t.clk)

-- what an address has after k steps from s, and since when
pub data Since (e : Environment) (s : State number_cells) (k a : ℕ) : Content Held → Type 0 where
  -- no step stored it: it is as at the start, and brings its moment from there
  as-at-start : ((j : ℕ) (h : Held) → j < k → StoresAfter e s j a h → ⊥) → Since e s k a (get s.cells a)
  -- the step that follows j steps stored it, and none after that
  stored_last : (j : ℕ) (h : Held) → j < k → StoresAfter e s j a h → ((i : ℕ) (w : Held) → j < i → i < k → StoresAfter e s i a w → ⊥)
      → Since e s k a (present h)

-- of a call, given its steps and the snapshot that it leaves: its steps are accepted ones, and what it leaves at each address
pub record SinceWhen (program : List Instruction) (s : Snapshot) (steps : ℕ) (left : Snapshot) : Type 0 where
  pub end : State number_cells
  pub accepted : steps_from (environment program s) steps (state_of s) ≡ pass end
  pub each : (a : ℕ) → Since (environment program s) (state_of s) steps a (get (state_of left).cells a)

-- The theorem: of every accepted step, plain and guarded, and of every call that passes entry, whatever its answer; each public call of a
-- loaded program is one of these, and one that entry refuses leaves everything. A machine has ten registers by its type.
pub record Moments : Type 0 where
  pub step : (e : Environment) (s : State number_cells) (n : Next number_cells) → Plain.step number_cells e s ≡ pass n → StepMoments e s n
  pub guarded_step : (e : Environment) (q : GuardedState number_cells mark_cells) (n : GuardedNext number_cells mark_cells)
      → Guarded.guarded_step number_cells mark_cells e q ≡ passes n → StepMoments e q.plain n.next
  pub plain_calls : (program : List Instruction) (budget : ℕ) (s : Snapshot) → length s.machine.registers ≡ 10 → plain_entry s ≡ true
      → SinceWhen program s (plain_call (pass program) budget s).steps (plain_call (pass program) budget s).left
  pub guarded_calls : (program : List Instruction) (budget : ℕ) (g : GuardedSnapshot) → length g.plain.machine.registers ≡ 10 → guarded_entry g ≡ true
      → SinceWhen program g.plain (guarded_call (pass program) budget g).steps (guarded_call (pass program) budget g).left.plain

-- Moments decide nothing but refusal 3: a call that is handed other moments, which entry accepts too, gives the same answer after as many
-- steps, and leaves the same but for moments

abbrev pub with_moments : Snapshot → List ℕ → Snapshot
with_moments s ms = record { machine = s.machine; addresses = s.addresses; numbers = s.numbers; moments = ms; tape = s.tape; output = s.output }

abbrev pub guarded_with_moments : GuardedSnapshot → List ℕ → GuardedSnapshot
guarded_with_moments g ms = record { plain = with_moments g.plain ms; marks = g.marks; extras = g.extras }

pub record MomentsDecideNothing : Type 0 where
  pub plain_calls : (program : List Instruction) (budget : ℕ) (s : Snapshot) (ms : List ℕ) → plain_entry s ≡ true → plain_entry (with_moments s ms) ≡ true
      → let c = plain_call (pass program) budget s in
      let d = plain_call (pass program) budget (with_moments s ms) in
      d ≡ record { answer = c.answer; steps = c.steps; left = with_moments c.left d.left.moments }
  pub guarded_calls : (program : List Instruction) (budget : ℕ) (g : GuardedSnapshot) (ms : List ℕ) → guarded_entry g ≡ true
      → guarded_entry (guarded_with_moments g ms) ≡ true
      → let c = guarded_call (pass program) budget g in
      let d = guarded_call (pass program) budget (guarded_with_moments g ms) in
      d ≡ record { answer = c.answer; steps = c.steps; left = guarded_with_moments c.left d.left.plain.moments }
