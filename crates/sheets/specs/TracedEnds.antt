-- What is left of a traced run, from a snapshot after some lines: the code's loop goes from one to the next.
use Rattle.std.specs.Prelude.{ℕ, suc, List}
use Rattle.rules.specs.declared.Answer.{Answer}
use Rattle.rules.specs.declared.Instruction.{Instruction}
use Rattle.rules.specs.Cells.{number_cells}
use Rattle.rules.specs.Step.{RunEnd}
use Rattle.rules.specs.Entry.{Snapshot, environment, state_of, snapshot_after}
use Rattle.sheets.specs.Traced.{TracedState, traced_run}

pub record TracedEnd : Type 0 where
  pub answer : Answer
  pub steps : ℕ
  pub left : Snapshot
  pub lines : List (List ℕ)

abbrev pub end_at : Snapshot → RunEnd (TracedState number_cells) → TracedEnd
end_at s r = record { answer = r.answer; steps = r.steps; left = snapshot_after s r.state.plain; lines = r.state.lines }

-- of a program, with a sheet of so many bytes, a budget, and the lines written so far
abbrev pub end_of : List Instruction → ℕ → ℕ → Snapshot → List (List ℕ) → TracedEnd
end_of program sheet budget s ls =
    end_at s (traced_run number_cells (environment program s) sheet budget (record { plain = state_of s; lines = ls }))

-- after one more step
abbrev pub one_more : TracedEnd → TracedEnd
one_more r = record { answer = r.answer; steps = suc r.steps; left = r.left; lines = r.lines }
