-- How a run ends: with no step, at a refused step, or with an accepted one. Before such a step the run with that much budget paused. The
-- clock counts the steps, and an answer other than paused stays with every larger budget.
use Prim.Native.Nat.{ℕ, zero, suc, ◌+◌, ◌<◌}
use native.Mathlib.Nat.{suc-add}
use mathlib.Core.Path.{◌≡◌, refl, sym, ap, subst, ◌∙◌}
use mathlib.Core.Bool.{Bool, true, false}
use mathlib.Core.List.{List, []}
use native.Mathlib.Omega.{arith}
use lib.Dec.{ltb}
use borrow.Author.Tests.{ltb-true, ltb-false}
use Rattle.rules.specs.declared.Refusal.TheVariants.{ClockEnd}
use Rattle.rules.specs.declared.Answer.{Answer}
use Rattle.rules.specs.declared.Answer.TheVariants.{Paused}
use Rattle.rules.specs.Numbers.{clock_end}
use Rattle.rules.specs.Step.{Finish, goes_on, ends, calls, delegates, RunEnd, stops_at, after_step, on_clock, on_finish}
use Rattle.rules.specs.Answers.{outcome, meaning, refusal_meaning}
use Rattle.rules.specs.EveryCall.{AnswersAfter, by_end, by_call, by-delegate-call, by-clock, by-budget}
use Rattle.rules.proofs.Laws.AnswerLaws.{refusal-not-paused}

-- a step of either run, decided: refused with an answer, or accepted with a finish, the clk and the state that it leaves
pub data Decided (S : Type 0) : Type 0 where
  stops : Answer → Decided S
  accepts : Finish → ℕ → S → Decided S

abbrev pub on_decided : {S : Type 0} → S → Decided S → (S → RunEnd S) → RunEnd S
on_decided s (stops a) k = stops_at a s
on_decided s (accepts f clk t) k = on_finish f clk t k

abbrev pub paused_run : {S : Type 0} → ℕ → S → RunEnd S
paused_run k s = record { answer = Paused; steps = k; state = s }

-- e3 is no other outcome
other-outcome : {X : Type 0} (n : ℕ) {vs : List ℕ} → (n ≡ 3 → ⊥) → outcome n vs ≡ outcome 3 [] → X
other-outcome n k e = absurd (k cc)

-- Of any run that goes from step to step as they are decided

module _ {S : Type 0} (decide : S → Decided S) (run : ℕ → S → RunEnd S) where
  pub data End (n : ℕ) (s : S) : RunEnd S → Type 0 where
    waits : n ≡ 0 → End n s (paused_run 0 s)
    refused : {k : ℕ} {t : S} {a : Answer} → k < n → run k s ≡ paused_run k t → decide t ≡ stops a → End n s (record { answer = a; steps = k; state = t })
    stepped : {k clk : ℕ} {t u : S} {f : Finish} {a : Answer} → k < n → run k s ≡ paused_run k t → decide t ≡ accepts f clk u
        → AnswersAfter f clk (meaning a) → (meaning a ≡ outcome 3 [] → suc k ≡ n) → End n s (record { answer = a; steps = suc k; state = u })

  module _ (at_zero : (s : S) → run zero s ≡ paused_run zero s) (at_suc : (n : ℕ) (s : S) → run (suc n) s ≡ on_decided s (decide s) (run n)) where
    -- after a step that goes on
    onward : {n clk : ℕ} {s t : S} {r : RunEnd S} → decide s ≡ accepts goes_on clk t → clk < clock_end
        → ((k : ℕ) → run (suc k) s ≡ after_step (run k t)) → End n t r → End (suc n) s (after_step r)
    unfolding meaning
    onward {s = s} d c link (waits e) = stepped {k = 0} (omega arith) (at_zero s) d (by-budget c) (λ _. ap suc (sym e))
    onward d c link (refused {k} l p x) = refused {k = suc k} (omega arith) (link k ∙ ap after_step p) x
    onward d c link (stepped {k} l p x e q) = stepped {k = suc k} (omega arith) (link k ∙ ap after_step p) x e (λ h. ap suc (q h))

    by-test : (n : ℕ) (s t : S) (clk : ℕ) → decide s ≡ accepts goes_on clk t → End n t (run n t) → (b : Bool) → ltb clk clock_end ≡ b
        → End (suc n) s (on_clock b t (run n t))
    unfolding meaning refusal_meaning
    by-test n s t clk d h true l =
        onward d (ltb-true clk clock_end l) (λ k. at_suc k s ∙ ap (λ x. on_decided s x (run k)) d ∙ ap (λ b. on_clock b t (run k t)) l) h
    by-test n s t clk d h false l =
        stepped {k = 0} (omega arith) (at_zero s) d (by-clock (ltb-false clk clock_end l)) (λ e. absurd (refusal-not-paused ClockEnd e))

    by-finish : (n : ℕ) (s t : S) (f : Finish) (clk : ℕ) → decide s ≡ accepts f clk t → End n t (run n t) → End (suc n) s (on_finish f clk t (run n))
    unfolding meaning
    by-finish n s t goes_on clk d h = by-test n s t clk d h (ltb clk clock_end) refl
    by-finish n s t ends clk d h = stepped {k = 0} (omega arith) (at_zero s) d by_end (other-outcome 0 (λ z. omega arith))
    by-finish n s t (calls vs) clk d h = stepped {k = 0} (omega arith) (at_zero s) d by_call (other-outcome 1 (λ z. omega arith))
    by-finish n s t (delegates vs) clk d h =
        stepped {k = 0} (omega arith) (at_zero s) d by-delegate-call (other-outcome 2 (λ z. omega arith))

    by-step : (n : ℕ) (s : S) (x : Decided S) → decide s ≡ x → ((t : S) → End n t (run n t)) → End (suc n) s (on_decided s x (run n))
    by-step n s (stops a) d h = refused {k = 0} (omega arith) (at_zero s) d
    by-step n s (accepts f clk t) d h = by-finish n s t f clk d (h t)

    pub run_end : (n : ℕ) (s : S) → End n s (run n s)
    run_end zero s = subst (End zero s) (sym (at_zero s)) (waits refl)
    run_end (suc n) s = subst (End (suc n) s) (sym (at_suc n s)) (by-step n s (decide s) refl (run_end n))

    -- An answer other than paused stays

    clock-settles : (b : Bool) (t : S) (r q : RunEnd S) → ((r.answer ≡ Paused → ⊥) → q ≡ r) → ((on_clock b t r).answer ≡ Paused → ⊥)
        → on_clock b t q ≡ on_clock b t r
    clock-settles true t r q h n = ap after_step (h n)
    clock-settles false t r q h n = refl

    settles : (x : Decided S) (s : S) (k l : S → RunEnd S) → ((t : S) → ((k t).answer ≡ Paused → ⊥) → l t ≡ k t)
        → ((on_decided s x k).answer ≡ Paused → ⊥) → on_decided s x l ≡ on_decided s x k
    settles (stops a) s k l h n = refl
    settles (accepts goes_on clk t) s k l h n = clock-settles (ltb clk clock_end) t (k t) (l t) (h t) n
    settles (accepts ends clk t) s k l h n = refl
    settles (accepts (calls vs) clk t) s k l h n = refl
    settles (accepts (delegates vs) clk t) s k l h n = refl

    pub run-settles : (n more : ℕ) (s : S) → ((run n s).answer ≡ Paused → ⊥) → run (n + more) s ≡ run n s
    run-settles zero more s h = absurd (h (ap (λ (r : RunEnd S). r.answer) (at_zero s)))
    run-settles (suc n) more s h =
        ap (λ k. run k s) (suc-add n more)
        ∙ at_suc (n + more) s
        ∙ settles (decide s) s (run n) (run (n + more)) (run-settles n more) (λ e. h (ap (λ (r : RunEnd S). r.answer) (at_suc n s) ∙ e))
        ∙ sym (at_suc n s)

    -- The clock

    module _ (clk_of : S → ℕ) (ticks : (s : S) (f : Finish) (clk : ℕ) (t : S) → decide s ≡ accepts f clk t → clk_of t ≡ suc (clk_of s)) where
      abbrev Counted : S → RunEnd S → Type 0
      Counted s r = clk_of r.state ≡ clk_of s + r.steps

      clock-counts : (b : Bool) (s t : S) (r : RunEnd S) → clk_of t ≡ suc (clk_of s) → Counted t r → Counted s (on_clock b t r)
      clock-counts true s t r e h = omega arith
      clock-counts false s t r e h = omega arith

      counts : (x : Decided S) (s : S) → decide s ≡ x → (k : S → RunEnd S) → ((t : S) → Counted t (k t)) → Counted s (on_decided s x k)
      counts (stops a) s d k h = omega arith
      counts (accepts goes_on clk t) s d k h = clock-counts (ltb clk clock_end) s t (k t) (ticks s goes_on clk t d) (h t)
      counts (accepts ends clk t) s d k h = let e = ticks s ends clk t d in omega arith
      counts (accepts (calls vs) clk t) s d k h = let e = ticks s (calls vs) clk t d in omega arith
      counts (accepts (delegates vs) clk t) s d k h = let e = ticks s (delegates vs) clk t d in omega arith

      pub run-counts : (n : ℕ) (s : S) → Counted s (run n s)
      run-counts zero s = subst (Counted s) (sym (at_zero s)) (omega arith)
      run-counts (suc n) s = subst (Counted s) (sym (at_suc n s)) (counts (decide s) s refl (run n) (run-counts n))
