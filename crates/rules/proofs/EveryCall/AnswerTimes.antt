-- The answers of steps: which numbers they have, what they carry, and when they come.
use Prim.Native.Nat.{ℕ, ◌≤◌}
use mathlib.Core.Path.{◌≡◌, refl, sym, ap, subst, ◌∙◌}
use mathlib.Core.Bool.{true, not, ◌&&◌}
use mathlib.Core.List.{[]}
use native.Mathlib.Omega.{arith}
use lib.Dec.{leb, eqb}
use borrow.Author.Tests.{leb-true}
use Rattle.rules.specs.declared.Refusal.{Refusal}
use Rattle.rules.specs.declared.Refusal.TheVariants as R
use Rattle.rules.specs.Step.{Finish}
use Rattle.rules.specs.Answers.{Meaning, refusal, meaning, refusal_meaning}
use Rattle.rules.specs.EveryCall.{IsAnswer, malformed, refused, When, at_entry, instead_of_step, with_step, at_budget, when, AnswersAfter, by_end, by_call, by-delegate-call, by-clock, by-budget}
use Rattle.rules.proofs.Laws.BoolLaws.{false-true, and_left, and_right}

-- no two of the times are one
abbrev pub place : When → ℕ
place at_entry = 0
place instead_of_step = 1
place with_step = 2
place at_budget = 3

pub apart : {X : Type 0} (v w : When) {u : When} → u ≡ v → u ≡ w → (place v ≡ place w → ⊥) → X
apart v w e f n = absurd (n (ap place (sym e ∙ f)))

-- 1 and 3 to 17 carry nothing
pub numbered : (highest : ℕ) → 17 ≤ highest → (n : ℕ) → (leb 1 n && (leb n 17 && not (eqb n 2))) ≡ true → IsAnswer highest (refusal n [])
numbered highest l n t =
    let u = and_right (leb 1 n) _ t in
    let a = leb-true 1 n (and_left (leb 1 n) _ t) in
    let b = leb-true n 17 (and_left (leb n 17) _ u) in
    refused {n = n} a (omega arith) (λ e. false-true (sym (ap (λ n. not (eqb n 2)) e) ∙ and_right (leb n 17) _ u))

-- every refusal but 18
pub refusal-answers : (highest : ℕ) → 17 ≤ highest → (f : Refusal) → IsAnswer highest (refusal_meaning f)
unfolding refusal_meaning
refusal-answers highest l R.BadLength = numbered highest l 1 refl
refusal-answers highest l (R.MalformedFrame n) = malformed
refusal-answers highest l R.BadState = numbered highest l 3 refl
refusal-answers highest l R.NoInstruction = numbered highest l 4 refl
refusal-answers highest l R.UncoveredOpcode = numbered highest l 5 refl
refusal-answers highest l R.BadOperand = numbered highest l 6 refl
refusal-answers highest l R.NotInField = numbered highest l 7 refl
refusal-answers highest l R.NotSmall = numbered highest l 8 refl
refusal-answers highest l R.AssertFailed = numbered highest l 9 refl
refusal-answers highest l R.RangeCheckFailed = numbered highest l 10 refl
refusal-answers highest l R.CellAbsent = numbered highest l 11 refl
refusal-answers highest l R.SpanPastRegion = numbered highest l 12 refl
refusal-answers highest l R.TapeFault = numbered highest l 13 refl
refusal-answers highest l R.StoreFault = numbered highest l 14 refl
refusal-answers highest l R.ProphetStore = numbered highest l 15 refl
refusal-answers highest l R.NoCapacity = numbered highest l 16 refl
refusal-answers highest l R.ClockEnd = numbered highest l 17 refl

-- a call's last step
pub after-not-entry : {f : Finish} {clk : ℕ} {a : Meaning} → AnswersAfter f clk a → when a ≡ at_entry → ⊥
unfolding meaning
after-not-entry by_end e = apart with_step at_entry refl e (λ z. omega arith)
after-not-entry by_call e = apart with_step at_entry refl e (λ z. omega arith)
after-not-entry by-delegate-call e = apart with_step at_entry refl e (λ z. omega arith)
after-not-entry (by-clock h) e = apart with_step at_entry refl e (λ z. omega arith)
after-not-entry (by-budget h) e = apart at_budget at_entry refl e (λ z. omega arith)

pub after_same : {f g : Finish} {c d : ℕ} {a : Meaning} → g ≡ f → d ≡ c → AnswersAfter f c a → AnswersAfter g d a
after_same {f} {g} {c} {d} {a} e h k = subst (λ d. AnswersAfter g d a) (sym h) (subst (λ g. AnswersAfter g c a) (sym e) k)
