-- Demand 3 of the public guarded functions: of the definition that each one's contract names.
use Rattle.std.specs.Prelude.{ℕ, List}
use Rattle.rules.specs.Frames.{load_words}
use Rattle.rules.specs.Text.{load_text, load_budget_text}
use Rattle.rules.specs.Calls.{job_budget, job_program, plain_call, plain_words, plain_text, guarded_call, guarded_words, guarded_text, guarded_budget_text}
use Rattle.rules.specs.NonInterference.{NonInterference}

-- a text with a budget line has its own budget; beside it the plain calls of its program have any
pub record NonInterfering : Type 0 where
  pub run_words : (words : List ℕ) (budget : ℕ) → NonInterference (load_words words) budget (guarded_words words budget) (plain_words words)
  pub step_words : (words : List ℕ) → NonInterference (load_words words) 1 (guarded_words words 1) (plain_words words)
  pub run_text : (text : List ℕ) (budget : ℕ) → NonInterference (load_text text) budget (guarded_text text budget) (plain_text text)
  pub run_budget_text : (text : List ℕ)
      → NonInterference (job_program (load_budget_text text)) (job_budget (load_budget_text text)) (guarded_budget_text text) (plain_call (job_program (load_budget_text text)))
  -- the checks are calls with budget 0
  pub check_words : (words : List ℕ) → NonInterference (load_words words) 0 (guarded_words words 0) (plain_words words)
  pub check_text : (text : List ℕ) → NonInterference (load_text text) 0 (guarded_text text 0) (plain_text text)
  pub check_budget_text : (text : List ℕ)
      → NonInterference (job_program (load_budget_text text)) 0 (guarded_call (job_program (load_budget_text text)) 0) (plain_call (job_program (load_budget_text text)))
