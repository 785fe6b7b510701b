-- Answers are known by their meanings: no two have the same.
use Prim.Native.Nat.{ℕ}
use mathlib.Core.Path.{◌≡◌, refl, sym, ap, ◌∙◌}
use mathlib.Core.List.{List, [], ◌∷◌, ◌++◌, map}
use native.Mathlib.Omega.{arith}
use lib.ListN.{get_or}
use Rattle.rules.specs.declared.Refusal.{Refusal}
use Rattle.rules.specs.declared.Refusal.TheVariants as R
use Rattle.rules.specs.declared.Answer.{Answer}
use Rattle.rules.specs.declared.Answer.TheVariants as A
use Rattle.rules.specs.Answers.{Meaning, outcome, refusal, refusal_meaning, meaning}

-- the answers of the outcomes, and of the refusals from 1 on
outcomes : List ℕ → List Answer
outcomes vs =
    A.Ended
    ∷ A.Calling (get_or vs 0 0) (get_or vs 1 0) (get_or vs 2 0) (get_or vs 3 0)
    ∷ A.DelegateCalling (get_or vs 0 0) (get_or vs 1 0) (get_or vs 2 0) (get_or vs 3 0)
    ∷ A.Paused
    ∷ []

refusals : List ℕ → List Refusal
refusals vs =
    R.BadLength
    ∷ R.MalformedFrame (get_or vs 0 0)
    ∷ R.BadState
    ∷ R.NoInstruction
    ∷ R.UncoveredOpcode
    ∷ R.BadOperand
    ∷ R.NotInField
    ∷ R.NotSmall
    ∷ R.AssertFailed
    ∷ R.RangeCheckFailed
    ∷ R.CellAbsent
    ∷ R.SpanPastRegion
    ∷ R.TapeFault
    ∷ R.StoreFault
    ∷ R.ProphetStore
    ∷ R.NoCapacity
    ∷ R.ClockEnd
    ∷ []

-- the answer of a meaning; 18 follows the refusals of a plain run, 19 is past the list's end
answer_of : Meaning → Answer
answer_of (outcome n vs) = get_or (outcomes vs) n A.Ended
answer_of (refusal ℕ.zero vs) = A.ShortBuffer
answer_of (refusal (ℕ.suc n) vs) = get_or (map A.Refused (refusals vs) ++ (A.MarkedSink ∷ [])) n A.ShortBuffer

refusal-back : (f : Refusal) → answer_of (refusal_meaning f) ≡ A.Refused f
unfolding answer_of refusals refusal_meaning
refusal-back R.BadLength = refl
refusal-back (R.MalformedFrame n) = refl
refusal-back R.BadState = refl
refusal-back R.NoInstruction = refl
refusal-back R.UncoveredOpcode = refl
refusal-back R.BadOperand = refl
refusal-back R.NotInField = refl
refusal-back R.NotSmall = refl
refusal-back R.AssertFailed = refl
refusal-back R.RangeCheckFailed = refl
refusal-back R.CellAbsent = refl
refusal-back R.SpanPastRegion = refl
refusal-back R.TapeFault = refl
refusal-back R.StoreFault = refl
refusal-back R.ProphetStore = refl
refusal-back R.NoCapacity = refl
refusal-back R.ClockEnd = refl

answer_back : (a : Answer) → answer_of (meaning a) ≡ a
unfolding answer_of refusals outcomes meaning
answer_back A.Ended = refl
answer_back (A.Calling a b c d) = refl
answer_back (A.DelegateCalling a b c d) = refl
answer_back A.Paused = refl
answer_back (A.Refused f) = refusal-back f
answer_back A.MarkedSink = refl
answer_back A.ShortBuffer = refl

pub meaning-injective : (a b : Answer) → meaning a ≡ meaning b → a ≡ b
meaning-injective a b h = sym (answer_back a) ∙ (ap answer_of h ∙ answer_back b)

-- e3 and 18

pub paused-meaning : meaning A.Paused ≡ outcome 3 []
unfolding meaning
paused-meaning = refl

pub paused-answer : (a : Answer) → meaning a ≡ outcome 3 [] → a ≡ A.Paused
paused-answer a h = meaning-injective a A.Paused (h ∙ sym paused-meaning)

pub refusal-not-paused : (f : Refusal) → refusal_meaning f ≡ outcome 3 [] → ⊥
unfolding meaning
refusal-not-paused f h = let e : A.Refused f ≡ A.Paused = paused-answer (A.Refused f) h in let z : ◌≡◌ {A = ℕ} 0 1 = cc in omega arith

pub sink-meaning : meaning A.MarkedSink ≡ refusal 18 []
unfolding meaning
sink-meaning = refl

pub sink-answer : (a : Answer) → meaning a ≡ refusal 18 [] → a ≡ A.MarkedSink
sink-answer a h = meaning-injective a A.MarkedSink (h ∙ sym sink-meaning)

pub refusal-not-sink : (f : Refusal) → refusal_meaning f ≡ refusal 18 [] → ⊥
unfolding meaning
refusal-not-sink f h = let e : A.Refused f ≡ A.MarkedSink = sink-answer (A.Refused f) h in let z : ◌≡◌ {A = ℕ} 0 1 = cc in omega arith

-- refusal 2 carries one number

pub malformed-refusal : (f : Refusal) (vs : List ℕ) → refusal_meaning f ≡ refusal 2 vs → (n : ℕ) × (vs ≡ n ∷ []) × (f ≡ R.MalformedFrame n)
unfolding answer_of refusals refusal_meaning
malformed-refusal f vs h =
    let e : A.Refused f ≡ A.Refused (R.MalformedFrame (get_or vs 0 0)) = sym (refusal-back f) ∙ ap answer_of h in
    let g : f ≡ R.MalformedFrame (get_or vs 0 0) = cc in
    let m : refusal 2 vs ≡ refusal 2 (get_or vs 0 0 ∷ []) = sym h ∙ ap refusal_meaning g in
    (get_or vs 0 0, cc, g)
