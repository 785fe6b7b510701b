-- Whole calls: what each public call gives, refusals at entry included. 1, 2 and 3 are looked for in this order.
use Rattle.std.specs.Prelude.{ℕ, List, []}
use Rattle.rules.specs.declared.Instruction.{Instruction}
use Rattle.rules.specs.declared.Refusal.{Refusal}
use Rattle.rules.specs.declared.Refusal.TheVariants.{BadState}
use Rattle.rules.specs.Numbers.{choose}
use Rattle.rules.specs.Results.{Result, refuse, pass}
use Rattle.rules.specs.Frames.{load_words}
use Rattle.rules.specs.Text.{Job, load_text, load_budget_text}
use Rattle.rules.specs.Cells.{number_cells, mark_cells}
use Rattle.rules.specs.Step.{State, RunEnd, run}
use Rattle.rules.specs.Guarded.{GuardedState, guarded_run}
use Rattle.rules.specs.Answers.{Meaning, outcome, meaning, refusal_meaning}
use Rattle.rules.specs.Entry.{Snapshot, GuardedSnapshot, plain_entry, guarded_entry, environment, state_of, guarded_state_of, snapshot_after, guarded_snapshot_after}

-- the answer, the steps, and all that was handed in as it is afterwards
pub record Called (S : Type 0) : Type 0 where
  pub answer : Meaning
  pub steps : ℕ
  pub left : S

-- a call refused at entry leaves everything
abbrev pub refused_call : {S : Type 0} → Refusal → S → Called S
refused_call f s = record { answer = refusal_meaning f; steps = 0; left = s }

-- e3 after k steps
abbrev pub paused_after : {S : Type 0} → ℕ → S → Called S
paused_after k s = record { answer = outcome 3 []; steps = k; left = s }

abbrev pub plain_run_of : List Instruction → ℕ → Snapshot → RunEnd (State number_cells)
plain_run_of program budget s = run number_cells (environment program s) budget (state_of s)

abbrev pub guarded_run_of : List Instruction → ℕ → GuardedSnapshot → RunEnd (GuardedState number_cells mark_cells)
guarded_run_of program budget g = guarded_run number_cells mark_cells (environment program g.plain) budget (guarded_state_of g)

abbrev pub plain_answered : Snapshot → RunEnd (State number_cells) → Called Snapshot
plain_answered s r = record { answer = meaning r.answer; steps = r.steps; left = snapshot_after s r.state }

abbrev pub guarded_answered : GuardedSnapshot → RunEnd (GuardedState number_cells mark_cells) → Called GuardedSnapshot
guarded_answered g r = record { answer = meaning r.answer; steps = r.steps; left = guarded_snapshot_after g r.state }

-- of a program as loaded
unfoldable pub plain_call : Result (List Instruction) → ℕ → Snapshot → Called Snapshot
plain_call (refuse f) budget s = refused_call f s
plain_call (pass program) budget s = choose (plain_entry s) (plain_answered s (plain_run_of program budget s)) (refused_call BadState s)

unfoldable pub guarded_call : Result (List Instruction) → ℕ → GuardedSnapshot → Called GuardedSnapshot
guarded_call (refuse f) budget g = refused_call f g
guarded_call (pass program) budget g = choose (guarded_entry g) (guarded_answered g (guarded_run_of program budget g)) (refused_call BadState g)

-- a text's own budget; 0 where the text is refused, which no answer shows
abbrev pub job_budget : Result Job → ℕ
job_budget (refuse f) = 0
job_budget (pass j) = j.budget

abbrev pub job_program : Result Job → Result (List Instruction)
job_program (refuse f) = refuse f
job_program (pass j) = pass j.program

-- The public calls: bare words, text, text with a budget line

unfoldable pub plain_words : List ℕ → ℕ → Snapshot → Called Snapshot
plain_words words budget s = plain_call (load_words words) budget s

unfoldable pub plain_text : List ℕ → ℕ → Snapshot → Called Snapshot
plain_text text budget s = plain_call (load_text text) budget s

unfoldable pub plain_budget_text : List ℕ → Snapshot → Called Snapshot
plain_budget_text text s = plain_call (job_program (load_budget_text text)) (job_budget (load_budget_text text)) s

unfoldable pub guarded_words : List ℕ → ℕ → GuardedSnapshot → Called GuardedSnapshot
guarded_words words budget g = guarded_call (load_words words) budget g

unfoldable pub guarded_text : List ℕ → ℕ → GuardedSnapshot → Called GuardedSnapshot
guarded_text text budget g = guarded_call (load_text text) budget g

unfoldable pub guarded_budget_text : List ℕ → GuardedSnapshot → Called GuardedSnapshot
guarded_budget_text text g = guarded_call (job_program (load_budget_text text)) (job_budget (load_budget_text text)) g
