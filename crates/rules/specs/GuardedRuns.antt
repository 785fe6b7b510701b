-- Whole guarded runs and calls by the rules: the answer, the steps, and the state and the marks that are left, whatever the answer.
use Rattle.std.specs.Prelude.{ℕ, suc, ◌≤◌, ◌<◌, ◌≡◌, true, false, List, [], length}
use Rattle.rules.specs.declared.Instruction.{Instruction}
use Rattle.rules.specs.declared.Refusal.{Refusal}
use Rattle.rules.specs.declared.Refusal.TheVariants.{BadState}
use Rattle.rules.specs.Numbers.{clock_end}
use Rattle.rules.specs.Results.{Result, refuse, pass}
use Rattle.rules.specs.Frames.{load_words}
use Rattle.rules.specs.Text.{load_text, load_budget_text}
use Rattle.rules.specs.Cells.{number_cells}
use Rattle.rules.specs.Step as Step
use Rattle.rules.specs.Step.{Environment, State, Finish, goes_on, ends, calls, delegates}
use Rattle.rules.specs.Answers.{Meaning, outcome, refusal, refusal_meaning}
use Rattle.rules.specs.Entry.{GuardedSnapshot, guarded_entry, environment, state_of, snapshot_after}
use Rattle.rules.specs.Calls.{Called, refused_call, job_budget, job_program, guarded_call, guarded_words, guarded_text, guarded_budget_text}
use Rattle.rules.specs.MarkRules.{Place, Marking, snapshot_marks}
use Rattle.rules.specs.SinkRules.{ReachesSink, AcceptedStep, Comes}

-- the plain step is refused with one of the numbers 4 to 16
pub record RefusedStep (e : Environment) (s : State number_cells) (n : ℕ) : Type 0 where
  pub kind : Refusal
  pub number : refusal_meaning kind ≡ refusal n []
  pub least : 4 ≤ n
  pub greatest : n ≤ 16
  pub refused : Step.step number_cells e s ≡ refuse kind

module _ (e : Environment) (s : State number_cells) (t : Marking) (budget : ℕ) where
  -- the run comes to a state after k steps, fewer than its budget, and the next step is accepted and leaves the run by f
  pub record LastStep (k : ℕ) (f : Finish) (s' : State number_cells) (t' : Marking) : Type 0 where
    pub below : k < budget
    pub state : State number_cells
    pub marks : Marking
    pub comes : Comes e s t k state marks
    pub step : AcceptedStep e state marks f s' t'

  -- how a guarded run from a state leaves: its answer, its steps, the state and the marks
  pub data RunByRules : Meaning → ℕ → State number_cells → Marking → Type 0 where
    -- e3: as many steps as the budget
    paused : {s' : State number_cells} {t' : Marking} → Comes e s t budget s' t' → RunByRules (outcome 3 []) budget s' t'
    -- 4 to 16, at no sink, and 18: the step before is the last that stands
    refused : {k n : ℕ} {s' : State number_cells} {t' : Marking} → k < budget → Comes e s t k s' t' → (ReachesSink e s' t' → ⊥) → RefusedStep e s' n
        → RunByRules (refusal n []) k s' t'
    stopped : {k : ℕ} {s' : State number_cells} {t' : Marking} → k < budget → Comes e s t k s' t' → ReachesSink e s' t' → RunByRules (refusal 18 []) k s' t'
    -- e0, e1, e2 and 17: this step is the last that stands
    ended : {k : ℕ} {s' : State number_cells} {t' : Marking} → LastStep k ends s' t' → RunByRules (outcome 0 []) (suc k) s' t'
    called : {k : ℕ} {vs : List ℕ} {s' : State number_cells} {t' : Marking} → LastStep k (calls vs) s' t' → RunByRules (outcome 1 vs) (suc k) s' t'
    delegated : {k : ℕ} {vs : List ℕ} {s' : State number_cells} {t' : Marking} → LastStep k (delegates vs) s' t' → RunByRules (outcome 2 vs) (suc k) s' t'
    clock : {k : ℕ} {s' : State number_cells} {t' : Marking} → LastStep k goes_on s' t' → clock_end ≤ s'.clk → RunByRules (refusal 17 []) (suc k) s' t'

-- Calls

-- a run from what is handed in
abbrev pub RunFrom : List Instruction → ℕ → GuardedSnapshot → Meaning → ℕ → State number_cells → Marking → Type 0
RunFrom program budget g = RunByRules (environment program g.plain) (state_of g.plain) (snapshot_marks g) budget

-- a call gives an answer and steps, and leaves a state and the marks of its places
pub record Gives (g : GuardedSnapshot) (c : Called GuardedSnapshot) (m : Meaning) (k : ℕ) (s : State number_cells) (t : Marking) : Type 0 where
  pub answer : c.answer ≡ m
  pub steps : c.steps ≡ k
  pub plain : c.left.plain ≡ snapshot_after g.plain s
  pub marks : (x : Place) → snapshot_marks c.left x ≡ t x

-- the rules give a run with the call's answer and steps, and whatever run they give, the call is that run
pub record CallByRules (program : List Instruction) (budget : ℕ) (g : GuardedSnapshot) (c : Called GuardedSnapshot) : Type 0 where
  pub state : State number_cells
  pub marks : Marking
  pub run : RunFrom program budget g c.answer c.steps state marks
  pub gives : (m : Meaning) (k : ℕ) (s : State number_cells) (t : Marking) → RunFrom program budget g m k s t → Gives g c m k s t

-- Of a program as loaded, with a budget

pub record GuardedRuns (program : Result (List Instruction)) (budget : ℕ) (guarded : GuardedSnapshot → Called GuardedSnapshot) : Type 0 where
  -- one that is refused at entry leaves everything
  pub unloaded : (g : GuardedSnapshot) {f : Refusal} → program ≡ refuse f → guarded g ≡ refused_call f g
  pub unfit : (g : GuardedSnapshot) → guarded_entry g ≡ false → {instructions : List Instruction} → program ≡ pass instructions
      → guarded g ≡ refused_call BadState g
  -- one that passes entry is a run by the rules; a machine has ten registers by its type
  pub by_rules : (g : GuardedSnapshot) → length g.plain.machine.registers ≡ 10 → guarded_entry g ≡ true
      → {instructions : List Instruction} → program ≡ pass instructions → CallByRules instructions budget g (guarded g)

-- The theorem, for each public guarded call: a step has budget 1, a check 0. The program of a text with a budget line is called with the
-- line's budget, and with any, beside it.
pub record CallsByRules : Type 0 where
  pub of_words : (words : List ℕ) (budget : ℕ) → GuardedRuns (load_words words) budget (guarded_words words budget)
  pub of_text : (text : List ℕ) (budget : ℕ) → GuardedRuns (load_text text) budget (guarded_text text budget)
  pub of_budget_text : (text : List ℕ)
      → GuardedRuns (job_program (load_budget_text text)) (job_budget (load_budget_text text)) (guarded_budget_text text)
  pub of_budget_text_program : (text : List ℕ) (budget : ℕ)
      → GuardedRuns (job_program (load_budget_text text)) budget (guarded_call (job_program (load_budget_text text)) budget)
