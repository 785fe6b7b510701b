-- The answer at entry from its parts: the program's check, the entry's tests.
use mathlib.Core.Path.{◌≡◌, refl, sym, ap, ap₂, ◌∙◌}
use mathlib.Core.Bool.{Bool, true, false, not}
use mathlib.Core.List.{List}
use Rattle.rules.specs.declared.Instruction.{Instruction}
use Rattle.rules.specs.declared.Answer.TheVariants as A
use Rattle.rules.specs.declared.Refusal.TheVariants.{BadState}
use Rattle.rules.specs.Numbers.{choose}
use Rattle.rules.specs.Results.{Result, refuse, pass}
use Rattle.rules.specs.Step.{run}
use Rattle.rules.specs.Guarded.{guarded_run}
use Rattle.rules.specs.Answers.{Meaning, meaning}
use Rattle.rules.specs.Entry.{GuardedSnapshot, plain_entry, marks_entry, guarded_entry, all}
use Rattle.rules.specs.Calls.{plain_call, guarded_call}
use Rattle.rules.proofs.Laws.BoolLaws.{and-with-true}
use Rattle.program.specs.WordLoads.{checked_of, CheckMeaning, accepted, refused_with, check_meaning}
use Rattle.checking.specs.ModeCalls.{mode_entry, mode_call}
use Rattle.program.specs.Checked.{Checked}

-- The entry's tests

-- `fits` is the test of the state alone
module _ (g : GuardedSnapshot) (fits : Bool) (e : fits ≡ plain_entry g.plain) where
  pub unfit : (guarded : Bool) → fits ≡ false → fits ≡ mode_entry guarded g
  unfolding mode_entry guarded_entry all
  unfit true h = rw (sym e, h)
  unfit false h = e

  pub plainly-fit : (guarded : Bool) → guarded ≡ false → fits ≡ true → not guarded ≡ mode_entry guarded g
  unfolding mode_entry
  plainly-fit guarded f h = rw f (sym h ∙ e)

  pub fit-by-marks : (guarded marked : Bool) → guarded ≡ true → fits ≡ true → marked ≡ marks_entry g → marked ≡ mode_entry guarded g
  unfolding mode_entry guarded_entry all
  fit-by-marks guarded marked t h m = rw (t, sym e, h) (m ∙ sym (and-with-true (marks_entry g)))

-- The answer

-- by what the check says, and whether the state is fit
abbrev answer_of : CheckMeaning → Bool → Meaning
answer_of (accepted n) fit = choose fit (meaning A.Paused) (meaning (A.Refused BadState))
answer_of (refused_with m) fit = m

module _ (g : GuardedSnapshot) where
  fit-or-not : (guarded : Bool) (program : List Instruction) (fit : Bool) → mode_entry guarded g ≡ fit
      → choose fit (meaning A.Paused) (meaning (A.Refused BadState)) ≡ (mode_call guarded (pass program) 0 g).answer
  unfolding mode_entry mode_call plain_call guarded_call run guarded_run meaning
  fit-or-not true program true h = rw h
  fit-or-not true program false h = rw h
  fit-or-not false program true h = rw h
  fit-or-not false program false h = rw h

  of-loaded : (guarded : Bool) (loaded : Result (List Instruction))
      → answer_of (check_meaning (checked_of loaded)) (mode_entry guarded g) ≡ (mode_call guarded loaded 0 g).answer
  unfolding mode_call plain_call guarded_call
  of-loaded true (refuse f) = refl
  of-loaded false (refuse f) = refl
  of-loaded guarded (pass program) = fit-or-not guarded program (mode_entry guarded g) refl

  pub answered : (guarded : Bool) {checked known : Checked} {fit : Bool} → checked ≡ known → mode_entry guarded g ≡ fit
      → (loaded : Result (List Instruction)) → check_meaning checked ≡ check_meaning (checked_of loaded)
      → answer_of (check_meaning known) fit ≡ (mode_call guarded loaded 0 g).answer
  answered guarded e h loaded k = ap₂ answer_of (ap check_meaning (sym e) ∙ k) (sym h) ∙ of-loaded guarded loaded
