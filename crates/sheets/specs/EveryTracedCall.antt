-- Demand 1 for traced calls: any call gets an outcome or one numbered refusal, 1 to 17 or 19, after at most its budget of steps. Refused at
-- entry it leaves everything, the sheet too, at a step what the step before left; of the refused calls only one with 17 keeps its last
-- step. 19 comes exactly where nothing else refuses the step and fewer than 257 bytes are left. Document 02, #102.
use Rattle.std.specs.Prelude.{ℕ, suc, ◌*◌, ◌<◌, ◌≡◌, true, false, List, [], ◌↔◌, length}
use Rattle.rules.specs.declared.Instruction.{Instruction}
use Rattle.rules.specs.declared.Refusal.{Refusal}
use Rattle.rules.specs.Results.{Result, refuse, pass}
use Rattle.rules.specs.Frames.{load_words}
use Rattle.rules.specs.Text.{load_text, load_budget_text}
use Rattle.rules.specs.Cells.{number_cells}
use Rattle.rules.specs.Step.{Next, step}
use Rattle.rules.specs.Answers.{Meaning, refusal, refusal_meaning}
use Rattle.rules.specs.Entry.{environment, state_of}
use Rattle.rules.specs.Calls.{Called, paused_after, job_budget, job_program}
use Rattle.rules.specs.EveryCall.{PlainKept, PlainStepLast, Promised}
use Rattle.sheets.specs.Lines.{line_bytes}
use Rattle.sheets.specs.StepBeside.{meets_unread}
use Rattle.sheets.specs.TracedCalls.{TracedSnapshot, traced_call, traced_words, traced_text, traced_budget_text}

-- The next step from a snapshot, of a program
module _ (program : List Instruction) (t : TracedSnapshot) where
  -- the further read passes, or none is made
  abbrev pub ReadPasses : Type 0
  ReadPasses = meets_unread number_cells (environment program t.plain) (state_of t.plain) ≡ false

  abbrev pub ReadFindsNothing : Type 0
  ReadFindsNothing = meets_unread number_cells (environment program t.plain) (state_of t.plain) ≡ true

  abbrev pub PlainStepIs : Result (Next number_cells) → Type 0
  PlainStepIs r = step number_cells (environment program t.plain) (state_of t.plain) ≡ r

-- it is refused: by the plain step, by CALL's further read, or for the sheet, where neither of the two refuses it
pub data TracedStepRefused : Result (List Instruction) → TracedSnapshot → Meaning → Type 0 where
  by-plain-step : {program : List Instruction} {t : TracedSnapshot} {f : Refusal} → ReadPasses program t → PlainStepIs program t (refuse f)
      → TracedStepRefused (pass program) t (refusal_meaning f)
  by-further-read : {program : List Instruction} {t : TracedSnapshot} → ReadFindsNothing program t
      → TracedStepRefused (pass program) t (refusal 11 [])
  by-sheet : {program : List Instruction} {t : TracedSnapshot} (n : Next number_cells) → ReadPasses program t
      → PlainStepIs program t (pass n) → TracedStepRefused (pass program) t (refusal 19 [])

-- what no call changes: PSP, the storage address, and the lengths of the buffers
pub record TracedKept (t u : TracedSnapshot) : Type 0 where
  pub plain : PlainKept t.plain u.plain
  pub sheet : length u.sheet ≡ length t.sheet

-- After k steps, which the budget allows, the call with budget k paused; the plain step from there is accepted, the further read passes,
-- and the sheet has no 257 bytes left
pub record ShortAfter (program : Result (List Instruction)) (budget : ℕ) (t : TracedSnapshot) (k : ℕ) : Type 0 where
  pub below : k < budget
  pub left : TracedSnapshot
  pub paused : traced_call program k t ≡ paused_after k left
  pub instructions : List Instruction
  pub loaded : program ≡ pass instructions
  pub reads : ReadPasses instructions left
  pub next : Next number_cells
  pub accepted : PlainStepIs instructions left (pass next)
  pub few : length t.sheet < line_bytes * suc k

pub record TracedPromised (program : Result (List Instruction)) (budget : ℕ) (t : TracedSnapshot) (c : Called TracedSnapshot) : Type 0 where
  -- as every call: `instead_of_step` is 4 to 16 and 19 here. What the last step is to the sheet is in SheetLines.antt.
  pub promised : Promised (λ t. t.plain) TracedKept 19 (TracedStepRefused program) (λ t a u. PlainStepLast program t.plain a u.plain)
      (λ k. traced_call program k t) budget t c
  -- 18 is a guarded call's
  pub never18 : c.answer ≡ refusal 18 [] → ⊥
  pub short_exactly : (k : ℕ) → ((c.answer ≡ refusal 19 []) × (c.steps ≡ k)) ↔ ShortAfter program budget t k

-- The theorem, for each public call. A machine has ten registers by its type.
pub record EveryTracedCall : Type 0 where
  pub of_words : (words : List ℕ) (budget : ℕ) (t : TracedSnapshot) → length t.plain.machine.registers ≡ 10
      → TracedPromised (load_words words) budget t (traced_words words budget t)
  pub of_text : (text : List ℕ) (budget : ℕ) (t : TracedSnapshot) → length t.plain.machine.registers ≡ 10
      → TracedPromised (load_text text) budget t (traced_text text budget t)
  pub of_budget_text : (text : List ℕ) (t : TracedSnapshot) → length t.plain.machine.registers ≡ 10
      → TracedPromised (job_program (load_budget_text text)) (job_budget (load_budget_text text)) t (traced_budget_text text t)
  pub of_budget_text_program : (text : List ℕ) (budget : ℕ) (t : TracedSnapshot) → length t.plain.machine.registers ≡ 10
      → TracedPromised (job_program (load_budget_text text)) budget t (traced_call (job_program (load_budget_text text)) budget t)
