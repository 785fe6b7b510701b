-- What a traced step gives, by the rules' run of one step.
use Rattle.std.specs.Prelude.{ℕ, ◌+◌, ◌*◌, ◌≤◌, ◌≡◌, List, ◌++◌, eqb, length}
use Rattle.rules.specs.declared.Answer.{Answer}
use Rattle.rules.specs.declared.Answer.TheVariants.{ShortBuffer}
use Rattle.rules.specs.declared.Instruction.{Instruction}
use Rattle.rules.specs.declared.Ran.{Ran}
use Rattle.rules.specs.Numbers.{choose}
use Rattle.rules.specs.Entry.{Snapshot, snapshot_after}
use Rattle.rules.specs.Calls.{plain_run_of}
use Rattle.rules.specs.Handed.{no_marks}
use Rattle.hexadecimal.specs.Writing.{overlay_at}
use Rattle.sheets.specs.Lines.{lines_text, line_bytes}
use Rattle.sheets.specs.TracedEnds.{TracedEnd}

-- the plain step: its answer and steps, and what it leaves

pub record PlainAnswer (program : List Instruction) (s : Snapshot) (r : Ran) : Type 0 where
  pub answer : r.answer ≡ (plain_run_of program 1 s).answer
  pub steps : r.steps ≡ (plain_run_of program 1 s).steps

pub record PlainStep (program : List Instruction) (s : Snapshot) (r : Ran) (t : Snapshot) : Type 0 where
  pub answered : PlainAnswer program s r
  pub left : t ≡ snapshot_after s (plain_run_of program 1 s).state
  pub extras : r.extras ≡ no_marks

-- where the sheet is too short: the step's own refusal, else 19
abbrev pub short_answer : List Instruction → Snapshot → Answer
short_answer program s = choose (eqb (plain_run_of program 1 s).steps 0) (plain_run_of program 1 s).answer ShortBuffer

-- the traced step, after some lines: its answer and steps, what it leaves, and the lines that it adds
pub record TracedStep
    (e : TracedEnd)
    (ls : List (List ℕ))
    (at : ℕ)
    (sheet : List ℕ)
    (r : Ran)
    (t : Snapshot)
    (sheet' : List ℕ)
    : Type 0 where
  pub answer : r.answer ≡ e.answer
  pub steps : r.steps ≡ e.steps
  pub most : r.steps ≤ 1
  pub left : t ≡ e.left
  pub extras : r.extras ≡ no_marks
  pub added : List (List ℕ)
  pub lines : e.lines ≡ ls ++ added
  pub count : length added ≡ r.steps
  pub bytes : length (lines_text added) ≡ line_bytes * r.steps
  pub fits : at + length (lines_text added) ≤ length sheet
  pub written : sheet' ≡ overlay_at sheet at (lines_text added)
