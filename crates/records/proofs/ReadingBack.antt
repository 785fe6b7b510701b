-- Records are read back: nothing is lost in them.
use Prim.Native.Nat.{ℕ}
use mathlib.Core.Path.{◌≡◌, refl, sym, ap, ◌∙◌}
use mathlib.Core.List.{List, [], ◌∷◌}
use lib.Dec.{eqb}
use lib.ListN.{get_or, take, drop}
use Rattle.rules.specs.declared.Answer.{Answer}
use Rattle.rules.specs.declared.Answer.TheVariants as A
use Rattle.rules.specs.declared.Refusal.{Refusal}
use Rattle.rules.specs.declared.Refusal.TheVariants as R
use Rattle.rules.specs.Numbers.{choose}
use Rattle.rules.specs.Answers.{Meaning, outcome, refusal, refusal_meaning, meaning}
use Rattle.rules.proofs.Laws.AnswerLaws.{meaning-injective}
use Rattle.records.specs.Records.{marks_of, marks_record, callee_of, answer_record, RecordsRead}
use Rattle.records.proofs.RecordLaws.{machine-read}

-- the answer that a record holds: e1 and e2 have a callee, refusal 2 has a frame
abbrev outcome_of : ℕ → List ℕ → Meaning
outcome_of n callee = outcome n (choose (eqb n 1) callee (choose (eqb n 2) callee []))

abbrev refusal_of : ℕ → ℕ → Meaning
refusal_of n frame = refusal n (choose (eqb n 2) (frame ∷ []) [])

abbrev pub meaning_of : List ℕ → Meaning
meaning_of r = choose (eqb (get_or r 0 0) 0) (outcome_of (get_or r 1 0) (take 4 (drop 4 r))) (refusal_of (get_or r 1 0) (get_or r 3 0))

refusal-read : (f : Refusal) (steps : ℕ) → meaning_of (answer_record (refusal_meaning f) steps) ≡ refusal_meaning f
unfolding answer_record refusal_meaning
refusal-read R.BadLength steps = refl
refusal-read (R.MalformedFrame n) steps = refl
refusal-read R.BadState steps = refl
refusal-read R.NoInstruction steps = refl
refusal-read R.UncoveredOpcode steps = refl
refusal-read R.BadOperand steps = refl
refusal-read R.NotInField steps = refl
refusal-read R.NotSmall steps = refl
refusal-read R.AssertFailed steps = refl
refusal-read R.RangeCheckFailed steps = refl
refusal-read R.CellAbsent steps = refl
refusal-read R.SpanPastRegion steps = refl
refusal-read R.TapeFault steps = refl
refusal-read R.StoreFault steps = refl
refusal-read R.ProphetStore steps = refl
refusal-read R.NoCapacity steps = refl
refusal-read R.ClockEnd steps = refl

pub answer-read : (a : Answer) (steps : ℕ) → meaning_of (answer_record (meaning a) steps) ≡ meaning a
unfolding answer_record callee_of meaning
answer-read A.Ended steps = refl
answer-read (A.Calling a b c d) steps = refl
answer-read (A.DelegateCalling a b c d) steps = refl
answer-read A.Paused steps = refl
answer-read (A.Refused f) steps = refusal-read f steps
answer-read A.MarkedSink steps = refl
answer-read A.ShortBuffer steps = refl

pub steps-read : (m : Meaning) (steps : ℕ) → get_or (answer_record m steps) 2 0 ≡ steps
unfolding answer_record
steps-read (outcome n vs) steps = refl
steps-read (refusal n vs) steps = refl

answers-told : (a b : Answer) (j k : ℕ) → answer_record (meaning a) j ≡ answer_record (meaning b) k → (a ≡ b) × (j ≡ k)
answers-told a b j k h = (
  meaning-injective a b (sym (answer-read a j) ∙ ap meaning_of h ∙ answer-read b k),
  sym (steps-read (meaning a) j) ∙ ap (λ (r : List ℕ). get_or r 2 0) h ∙ steps-read (meaning b) k,
)

pub records-read : RecordsRead
unfolding marks_of marks_record
records-read = record { machine = machine-read; extras = λ m. refl; answer = answers-told }
