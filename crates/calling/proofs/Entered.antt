-- A run by mode: what passed the entry's tests may run, and what the run gives is the call's answer.
use Prim.Native.Nat.{ℕ}
use mathlib.Core.Path.{◌≡◌, refl, sym, ◌∙◌}
use mathlib.Core.Bool.{Bool, true, false}
use mathlib.Core.List.{List, []}
use Rattle.rules.specs.declared.Instruction.{Instruction}
use Rattle.rules.specs.declared.Marks.{Marks}
use Rattle.rules.specs.declared.Ran.{Ran}
use Rattle.rules.specs.Results.{pass}
use Rattle.rules.specs.Entry.{GuardedSnapshot, plain_entry, marks_entry, guarded_entry}
use Rattle.rules.specs.Calls.{Called, plain_run_of, plain_answered, guarded_run_of, guarded_answered, plain_call, guarded_call}
use Rattle.rules.specs.Handed.{guarded_snapshot, guarded_called}
use Rattle.rules.proofs.Laws.BoolLaws.{false-true}
use Rattle.rules.proofs.Laws.EntryLaws.{all-at}
use Rattle.interpreter.specs.Runs.{PassedEntry, Runs}
use Rattle.interpreter.proofs.BothRuns.{runs-guarded, runs-plain}
use Rattle.checking.specs.ModeCalls.{mode_entry, mode_call, call_beside}

-- What passed the tests

module _ (g : GuardedSnapshot) where
  state-fits : (guarded : Bool) → mode_entry guarded g ≡ true → plain_entry g.plain ≡ true
  unfolding mode_entry guarded_entry
  state-fits true h = all-at _ h 0
  state-fits false h = h

  marks-fit : (guarded : Bool) → guarded ≡ true → mode_entry guarded g ≡ true → marks_entry g ≡ true
  unfolding mode_entry guarded_entry
  marks-fit true e h = all-at _ h 1
  marks-fit false e h = absurd (false-true e)

-- the marks of a plain call
abbrev NoMarks : GuardedSnapshot → Type 0
NoMarks g = (g.marks ≡ []) × (g.extras.registers ≡ 0)

-- the run is called with a flag that is known
module _ (g : GuardedSnapshot) (guarded known : Bool) (e : guarded ≡ known) (extras : Marks) (h : mode_entry guarded g ≡ true) (u : guarded ≡ false → NoMarks g) where
  pub passed : PassedEntry (record { guarded = known; extras = extras }) g
  passed =
      record {
        plain = state-fits g guarded h;
        guarded = λ t. marks-fit g guarded (e ∙ t) h;
        unmarked = λ f. u (e ∙ f);
      }

-- What the run gives

module _ (program : List Instruction) (budget : ℕ) (g : GuardedSnapshot) (c : Called GuardedSnapshot) where
  answered-guarded : (guarded : Bool) → guarded ≡ true → mode_entry guarded g ≡ true → c ≡ guarded_answered g (guarded_run_of program budget g)
      → c ≡ mode_call guarded (pass program) budget g
  unfolding mode_entry mode_call guarded_call
  answered-guarded true e h k = rw h k
  answered-guarded false e h k = absurd (false-true e)

  answered-plain : (guarded : Bool) → guarded ≡ false → mode_entry guarded g ≡ true → c ≡ call_beside g (plain_answered g.plain (plain_run_of program budget g.plain))
      → c ≡ mode_call guarded (pass program) budget g
  unfolding mode_entry mode_call plain_call
  answered-plain true e h k = absurd (false-true (sym e))
  answered-plain false e h k = rw h k

module _ (g : GuardedSnapshot) (guarded : Bool) (extras : Marks) (h : mode_entry guarded g ≡ true) (program : List Instruction) (budget : ℕ) (r : Ran)
    (xs ns ms ts tape output : List ℕ) where
  abbrev left : GuardedSnapshot
  left = guarded_snapshot r.machine r.extras xs ns ms ts tape output

  pub entered-guarded : guarded ≡ true → Runs (record { guarded = true; extras = extras }) program budget g r left
      → guarded_called r xs ns ms ts tape output ≡ mode_call guarded (pass program) budget g
  entered-guarded e k = answered-guarded program budget g (guarded_called r xs ns ms ts tape output) guarded e h (runs-guarded (record { guarded = true; extras = extras }) program budget g r left k refl)

  pub entered-plain : guarded ≡ false → (guarded ≡ false → NoMarks g) → Runs (record { guarded = false; extras = extras }) program budget g r left
      → guarded_called r xs ns ms ts tape output ≡ mode_call guarded (pass program) budget g
  entered-plain e u k =
      answered-plain program budget g (guarded_called r xs ns ms ts tape output) guarded e h (runs-plain (record { guarded = false; extras = extras }) program budget g r left k refl (u e))
