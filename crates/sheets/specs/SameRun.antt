-- Apart from CALL's further read and 19, a traced and an untraced run are the same run: as one statement about whole calls, refusals at
-- entry included. Document 02, #102.
use Rattle.std.specs.Prelude.{ℕ, ◌<◌, ◌≡◌, List, [], length, replicate}
use Rattle.rules.specs.declared.Instruction.{Instruction}
use Rattle.rules.specs.Results.{Result, pass}
use Rattle.rules.specs.Frames.{load_words}
use Rattle.rules.specs.Text.{load_text, load_budget_text}
use Rattle.rules.specs.Cells.{number_cells}
use Rattle.rules.specs.Answers.{refusal}
use Rattle.rules.specs.Entry.{Snapshot, environment, state_of}
use Rattle.rules.specs.Calls.{Called, paused_after, job_budget, job_program, plain_call}
use Rattle.sheets.specs.Traced.{TracedResult, unread, short, TracedState, TracedNext, traced_step}
use Rattle.sheets.specs.TracedCalls.{TracedSnapshot, traced_call, traced_words, traced_text, traced_budget_text}

-- what a snapshot stands for when k lines are written: a step asks how many, and not what they say
abbrev pub after_lines : ℕ → Snapshot → TracedState number_cells
after_lines k s = record { plain = state_of s; lines = replicate k [] }

-- The plain call with budget k pauses after k steps, and the traced step from what it left, k lines being written, is x
pub record StepAfter
    (program : Result (List Instruction))
    (t : TracedSnapshot)
    (k : ℕ)
    (x : TracedResult (TracedNext number_cells))
    : Type 0 where
  pub instructions : List Instruction
  pub loaded : program ≡ pass instructions
  pub left : Snapshot
  pub paused : plain_call program k t.plain ≡ paused_after k left
  pub step : traced_step number_cells (environment instructions left) (length t.sheet) (after_lines k left) ≡ x

-- in the place of none of the first n steps the further read finds nothing, or the sheet is too short
abbrev pub NeitherBefore : Result (List Instruction) → TracedSnapshot → ℕ → Type 0
NeitherBefore program t n = (k : ℕ) → k < n → (StepAfter program t k unread → ⊥) × (StepAfter program t k short → ⊥)

-- a traced call's answer, steps, and all that it left but for the sheet
abbrev pub without_sheet : Called TracedSnapshot → Called Snapshot
without_sheet c = record { answer = c.answer; steps = c.steps; left = c.left.plain }

-- refusal n after k steps
abbrev pub refused_after : ℕ → ℕ → Snapshot → Called Snapshot
refused_after n k s = record { answer = refusal n []; steps = k; left = s }

-- How a traced call ends: as the plain call; or, after k steps, at the further read or for the sheet, and then with what the plain call
-- with budget k left. The 11 of the further read is known by its stage and not by its number.
pub data Ends (program : Result (List Instruction)) (t : TracedSnapshot) (budget : ℕ) : Called Snapshot → Type 0 where
  as_plain : NeitherBefore program t budget → Ends program t budget (plain_call program budget t.plain)
  at-further-read : {k : ℕ} → k < budget → NeitherBefore program t k → (m : StepAfter program t k unread)
      → Ends program t budget (refused_after 11 k m.left)
  at-short-sheet : {k : ℕ} → k < budget → NeitherBefore program t k → (m : StepAfter program t k short)
      → Ends program t budget (refused_after 19 k m.left)

-- A call ends in one of the three ways, and each way exactly where it says
pub record SameCall (program : Result (List Instruction)) (t : TracedSnapshot) (budget : ℕ) (c : Called TracedSnapshot) : Type 0 where
  pub ends : Ends program t budget (without_sheet c)
  pub as_plain_call : NeitherBefore program t budget → without_sheet c ≡ plain_call program budget t.plain
  pub at_further_read : (k : ℕ) → k < budget → NeitherBefore program t k → (m : StepAfter program t k unread)
      → without_sheet c ≡ refused_after 11 k m.left
  pub at_short_sheet : (k : ℕ) → k < budget → NeitherBefore program t k → (m : StepAfter program t k short)
      → without_sheet c ≡ refused_after 19 k m.left

-- The theorem, for each public call. The program of a text with a budget line is called with the line's budget, and with any, beside it. A
-- machine has ten registers by its type.
pub record SameRun : Type 0 where
  pub of_words : (words : List ℕ) (budget : ℕ) (t : TracedSnapshot) → length t.plain.machine.registers ≡ 10
      → SameCall (load_words words) t budget (traced_words words budget t)
  pub of_text : (text : List ℕ) (budget : ℕ) (t : TracedSnapshot) → length t.plain.machine.registers ≡ 10
      → SameCall (load_text text) t budget (traced_text text budget t)
  pub of_budget_text : (text : List ℕ) (t : TracedSnapshot) → length t.plain.machine.registers ≡ 10
      → SameCall (job_program (load_budget_text text)) t (job_budget (load_budget_text text)) (traced_budget_text text t)
  pub of_budget_text_program : (text : List ℕ) (budget : ℕ) (t : TracedSnapshot) → length t.plain.machine.registers ≡ 10
      → SameCall (job_program (load_budget_text text)) t budget (traced_call (job_program (load_budget_text text)) budget t)
