-- Demand 2, as one statement about whole calls: each is refused at entry, or is the run over a plain map from address to number and moment.
-- The buffers of cells then hold what that map holds, in rising order.
use Rattle.std.specs.Prelude.{ℕ, ◌≡◌, true, false, List, length}
use Rattle.rules.specs.declared.Instruction.{Instruction}
use Rattle.rules.specs.declared.Refusal.{Refusal}
use Rattle.rules.specs.declared.Refusal.TheVariants.{BadState}
use Rattle.rules.specs.Results.{Result, refuse, pass}
use Rattle.rules.specs.Frames.{load_words}
use Rattle.rules.specs.Text.{load_text, load_budget_text}
use Rattle.rules.specs.Cells.{addresses, number_cells, mark_cells}
use Rattle.rules.specs.PlainMap.{number_map, mark_map}
use Rattle.rules.specs.Step.{State, RunEnd, run}
use Rattle.rules.specs.Guarded.{GuardedState, guarded_run}
use Rattle.rules.specs.Answers.{meaning}
use Rattle.rules.specs.Entry.{Snapshot, GuardedSnapshot, plain_entry, guarded_entry, environment, state_of, guarded_state_of, snapshot_after, guarded_snapshot_after}
use Rattle.rules.specs.Calls.{Called, refused_call, job_budget, job_program, plain_call, plain_words, plain_text, plain_budget_text, guarded_call, guarded_words, guarded_text, guarded_budget_text}
use Rattle.rules.specs.MapAgreement.{map_state, map_guarded_state, SameState, SameGuardedState}

-- The runs over a plain map, from what is handed in

abbrev pub map_run : List Instruction → ℕ → Snapshot → RunEnd (State number_map)
map_run program budget s = run number_map (environment program s) budget (map_state (state_of s))

abbrev pub guarded_map_run : List Instruction → ℕ → GuardedSnapshot → RunEnd (GuardedState number_map mark_map)
guarded_map_run program budget g = guarded_run number_map mark_map (environment program g.plain) budget (map_guarded_state (guarded_state_of g))

-- What a call gives. Of one that runs: the map's answer and steps, and the snapshot of a state that agrees with the map's, its cells in
-- rising order. In a guarded call the marks are those of the same addresses.

pub data OnMap : Result (List Instruction) → ℕ → Snapshot → Called Snapshot → Type 0 where
  refused-program : {f : Refusal} {budget : ℕ} {s : Snapshot} → OnMap (refuse f) budget s (refused_call f s)
  unfit-state : {program : List Instruction} {budget : ℕ} {s : Snapshot} → plain_entry s ≡ false → OnMap (pass program) budget s (refused_call BadState s)
  runs : {program : List Instruction} {budget : ℕ} {s : Snapshot} → plain_entry s ≡ true
      → (t : State number_cells) → SameState t (map_run program budget s).state
      → OnMap (pass program) budget s
      (record { answer = meaning (map_run program budget s).answer; steps = (map_run program budget s).steps; left = snapshot_after s t })

pub data GuardedOnMap : Result (List Instruction) → ℕ → GuardedSnapshot → Called GuardedSnapshot → Type 0 where
  refused-guarded : {f : Refusal} {budget : ℕ} {g : GuardedSnapshot} → GuardedOnMap (refuse f) budget g (refused_call f g)
  unfit-guarded : {program : List Instruction} {budget : ℕ} {g : GuardedSnapshot} → guarded_entry g ≡ false
      → GuardedOnMap (pass program) budget g (refused_call BadState g)
  runs-guarded : {program : List Instruction} {budget : ℕ} {g : GuardedSnapshot} → guarded_entry g ≡ true
      → (q : GuardedState number_cells mark_cells) → SameGuardedState q (guarded_map_run program budget g).state
      → addresses q.marks.cells ≡ addresses q.plain.cells
      → GuardedOnMap (pass program) budget g
      (record {
        answer = meaning (guarded_map_run program budget g).answer;
        steps = (guarded_map_run program budget g).steps;
        left = guarded_snapshot_after g q;
      })

-- The theorem, for each public call: a step has budget 1, a check 0. The program of a text with a budget line is called with the line's
-- budget, and with any, beside it. A machine has ten registers by its type.
pub record MapCalls : Type 0 where
  pub of_words : (words : List ℕ) (budget : ℕ) (s : Snapshot) → length s.machine.registers ≡ 10
      → OnMap (load_words words) budget s (plain_words words budget s)
  pub of_text : (text : List ℕ) (budget : ℕ) (s : Snapshot) → length s.machine.registers ≡ 10
      → OnMap (load_text text) budget s (plain_text text budget s)
  pub of_budget_text : (text : List ℕ) (s : Snapshot) → length s.machine.registers ≡ 10
      → OnMap (job_program (load_budget_text text)) (job_budget (load_budget_text text)) s (plain_budget_text text s)
  pub of_budget_text_program : (text : List ℕ) (budget : ℕ) (s : Snapshot) → length s.machine.registers ≡ 10
      → OnMap (job_program (load_budget_text text)) budget s (plain_call (job_program (load_budget_text text)) budget s)
  pub of_guarded_words : (words : List ℕ) (budget : ℕ) (g : GuardedSnapshot) → length g.plain.machine.registers ≡ 10
      → GuardedOnMap (load_words words) budget g (guarded_words words budget g)
  pub of_guarded_text : (text : List ℕ) (budget : ℕ) (g : GuardedSnapshot) → length g.plain.machine.registers ≡ 10
      → GuardedOnMap (load_text text) budget g (guarded_text text budget g)
  pub of_guarded_budget_text : (text : List ℕ) (g : GuardedSnapshot) → length g.plain.machine.registers ≡ 10
      → GuardedOnMap (job_program (load_budget_text text)) (job_budget (load_budget_text text)) g (guarded_budget_text text g)
  pub of_guarded_budget_text_program : (text : List ℕ) (budget : ℕ) (g : GuardedSnapshot) → length g.plain.machine.registers ≡ 10
      → GuardedOnMap (job_program (load_budget_text text)) budget g (guarded_call (job_program (load_budget_text text)) budget g)
