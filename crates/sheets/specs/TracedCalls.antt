-- Whole traced calls, refusals at entry included: those of the plain calls. Document 02, #102.
use Rattle.std.specs.Prelude.{ℕ, List, [], length}
use Rattle.rules.specs.declared.Instruction.{Instruction}
use Rattle.rules.specs.declared.Machine.{Machine}
use Rattle.rules.specs.declared.Ran.{Ran}
use Rattle.rules.specs.declared.Refusal.TheVariants.{BadState}
use Rattle.rules.specs.Numbers.{choose}
use Rattle.rules.specs.Results.{Result, refuse, pass}
use Rattle.rules.specs.Frames.{load_words}
use Rattle.rules.specs.Text.{load_text, load_budget_text}
use Rattle.rules.specs.Cells.{number_cells}
use Rattle.rules.specs.Step.{RunEnd, overlay}
use Rattle.rules.specs.Answers.{meaning}
use Rattle.rules.specs.Entry.{Snapshot, plain_entry, environment, state_of, snapshot_after}
use Rattle.rules.specs.Calls.{Called, refused_call, job_budget, job_program}
use Rattle.rules.specs.Handed.{snapshot}
use Rattle.sheets.specs.Lines.{lines_text}
use Rattle.sheets.specs.Traced.{TracedState, traced_run}

-- what a caller hands in: also the sheet, whole
pub record TracedSnapshot : Type 0 where
  pub plain : Snapshot
  pub sheet : List ℕ

-- no line is written yet: the sheet is filled from its start at every call
abbrev pub traced_state_of : TracedSnapshot → TracedState number_cells
traced_state_of t = record { plain = state_of t.plain; lines = [] }

-- the lines, and behind them what stood there
abbrev pub traced_snapshot_after : TracedSnapshot → TracedState number_cells → TracedSnapshot
traced_snapshot_after t q = record { plain = snapshot_after t.plain q.plain; sheet = overlay (lines_text q.lines) t.sheet }

abbrev pub traced_run_of : List Instruction → ℕ → TracedSnapshot → RunEnd (TracedState number_cells)
traced_run_of program budget t = traced_run number_cells (environment program t.plain) (length t.sheet) budget (traced_state_of t)

abbrev pub traced_answered : TracedSnapshot → RunEnd (TracedState number_cells) → Called TracedSnapshot
traced_answered t r = record { answer = meaning r.answer; steps = r.steps; left = traced_snapshot_after t r.state }

-- of a program as loaded
unfoldable pub traced_call : Result (List Instruction) → ℕ → TracedSnapshot → Called TracedSnapshot
traced_call (refuse f) budget t = refused_call f t
traced_call (pass program) budget t =
    choose (plain_entry t.plain) (traced_answered t (traced_run_of program budget t)) (refused_call BadState t)

-- The public calls: bare words, text, text with a budget line

unfoldable pub traced_words : List ℕ → ℕ → TracedSnapshot → Called TracedSnapshot
traced_words words budget t = traced_call (load_words words) budget t

unfoldable pub traced_text : List ℕ → ℕ → TracedSnapshot → Called TracedSnapshot
traced_text text budget t = traced_call (load_text text) budget t

unfoldable pub traced_budget_text : List ℕ → TracedSnapshot → Called TracedSnapshot
traced_budget_text text t = traced_call (job_program (load_budget_text text)) (job_budget (load_budget_text text)) t

-- What the code is handed, and what it gives: after the plain call's buffers, the sheet

abbrev pub traced_snapshot : Machine → List ℕ → List ℕ → List ℕ → List ℕ → List ℕ → List ℕ → TracedSnapshot
traced_snapshot m xs ns ms tape output sheet = record { plain = snapshot m xs ns ms tape output; sheet = sheet }

abbrev pub traced_called : Ran → List ℕ → List ℕ → List ℕ → List ℕ → List ℕ → List ℕ → Called TracedSnapshot
traced_called r xs ns ms tape output sheet =
    record { answer = meaning r.answer; steps = r.steps; left = traced_snapshot r.machine xs ns ms tape output sheet }
