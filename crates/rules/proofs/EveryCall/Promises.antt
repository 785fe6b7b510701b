-- The ends of a call, and that each keeps what is promised.
use Prim.Native.Nat.{ℕ, suc, ◌+◌, ◌≤◌, ◌<◌}
use mathlib.Core.Path.{◌≡◌, refl, sym, ap}
use mathlib.Core.List.{[]}
use native.Mathlib.Omega.{arith}
use Rattle.rules.specs.Step.{Finish}
use Rattle.rules.specs.Answers.{Meaning, outcome, meaning}
use Rattle.rules.specs.Entry.{Snapshot}
use Rattle.rules.specs.Calls.{Called, paused_after}
use Rattle.rules.specs.EveryCall.{IsAnswer, ended, calling, delegate-calling, paused, When, at_entry, instead_of_step, with_step, at_budget, when, AnswersAfter, by_end, by_call, by-delegate-call, by-clock, by-budget, Promised}
use Rattle.rules.proofs.EveryCall.AnswerTimes.{place, apart, numbered}

module _ {S : Type 0} (highest : ℕ) (StepIsRefused : S → Meaning → Type 0) (StepIsLast : S → Meaning → S → Type 0) (with_budget : ℕ → Called S) (budget : ℕ) (s : S) where
  pub data CallEnd : Called S → Type 0 where
    entry-refused : {a : Meaning} → IsAnswer highest a → when a ≡ at_entry → CallEnd (record { answer = a; steps = 0; left = s })
    waits : budget ≡ 0 → CallEnd (paused_after 0 s)
    step-refused : {k : ℕ} {t : S} {a : Meaning} → IsAnswer highest a → when a ≡ instead_of_step → k < budget → with_budget k ≡ paused_after k t
        → (k ≡ 0 → t ≡ s) → StepIsRefused t a → CallEnd (record { answer = a; steps = k; left = t })
    step-ends : {k : ℕ} {t u : S} {a : Meaning} → IsAnswer highest a → when a ≡ with_step → k < budget → with_budget k ≡ paused_after k t
        → StepIsLast t a u → CallEnd (record { answer = a; steps = suc k; left = u })
    step-pauses : {k : ℕ} {t u : S} → suc k ≡ budget → with_budget k ≡ paused_after k t → StepIsLast t (outcome 3 []) u → CallEnd (paused_after (suc k) u)

  -- by how the last step leaves the call
  pub after-step : 17 ≤ highest → {k clk : ℕ} {t u : S} {f : Finish} {a : Meaning} → AnswersAfter f clk a → (a ≡ outcome 3 [] → suc k ≡ budget)
      → k < budget → with_budget k ≡ paused_after k t → StepIsLast t a u → CallEnd (record { answer = a; steps = suc k; left = u })
  unfolding meaning
  after-step h by_end q l p r = step-ends ended refl l p r
  after-step h by_call q l p r = step-ends calling refl l p r
  after-step h by-delegate-call q l p r = step-ends delegate-calling refl l p r
  after-step h (by-clock c) q l p r = step-ends (numbered highest h 17 refl) refl l p r
  after-step h (by-budget c) q l p r = step-pauses (q refl) p r

  not-paused : (v : When) (m : Meaning) → when m ≡ v → (place v ≡ 3 → ⊥) → m ≡ outcome 3 [] → ⊥
  not-paused v m h n e = apart v at_budget h (ap when e) n

  pub promised : (plain : S → Snapshot) (Kept : S → S → Type 0) {c : Called S} → c ≡ with_budget budget
      → (plain c.left).machine.clk ≡ (plain s).machine.clk + c.steps
      → Kept s c.left
      → ((more : ℕ) → (c.answer ≡ outcome 3 [] → ⊥) → with_budget (budget + more) ≡ c)
      → CallEnd c → Promised plain Kept highest StepIsRefused StepIsLast with_budget budget s c
  promised plain Kept w clock kept settled (entry-refused a h) =
      record {
        is_call_with_budget = w;
        answer = a;
        steps = omega arith;
        clock = clock;
        kept = kept;
        paused_exactly = (λ e. absurd (not-paused at_entry _ h (λ z. omega arith) e), λ q. absurd (q.1 h));
        refused_at_entry = λ _. refl;
        without_step = λ _. refl;
        refused_at_step = λ e. apart at_entry instead_of_step h e (λ z. omega arith);
        ended_by_step = λ e. apart at_entry with_step h e (λ z. omega arith);
        paused_by_step = λ e. absurd (not-paused at_entry _ h (λ z. omega arith) e);
        settled = settled;
      }
  promised plain Kept w clock kept settled (waits b) =
      record {
        is_call_with_budget = w;
        answer = paused;
        steps = omega arith;
        clock = clock;
        kept = kept;
        paused_exactly = (λ _. (sym b, λ e. apart at_budget at_entry refl e (λ z. omega arith), λ e. apart at_budget with_step refl e (λ z. omega arith)), λ _. refl);
        refused_at_entry = λ _. refl;
        without_step = λ _. refl;
        refused_at_step = λ e. apart at_budget instead_of_step refl e (λ z. omega arith);
        ended_by_step = λ e. apart at_budget with_step refl e (λ z. omega arith);
        paused_by_step = λ _ n. absurd (n refl);
        settled = settled;
      }
  promised plain Kept w clock kept settled (step-refused a h l p z r) =
      record {
        is_call_with_budget = w;
        answer = a;
        steps = omega arith;
        clock = clock;
        kept = kept;
        paused_exactly = (λ e. absurd (not-paused instead_of_step _ h (λ z. omega arith) e), λ q. absurd (let z = q.0 in omega arith));
        refused_at_entry = λ e. apart instead_of_step at_entry h e (λ z. omega arith);
        without_step = z;
        refused_at_step = λ _. (l, p, r);
        ended_by_step = λ e. apart instead_of_step with_step h e (λ z. omega arith);
        paused_by_step = λ e. absurd (not-paused instead_of_step _ h (λ z. omega arith) e);
        settled = settled;
      }
  promised plain Kept w clock kept settled (step-ends {k} {t} a h l p r) =
      record {
        is_call_with_budget = w;
        answer = a;
        steps = omega arith;
        clock = clock;
        kept = kept;
        paused_exactly = (λ e. absurd (not-paused with_step _ h (λ z. omega arith) e), λ q. absurd (q.2 h));
        refused_at_entry = λ e. apart with_step at_entry h e (λ z. omega arith);
        without_step = λ e. absurd (omega arith);
        refused_at_step = λ e. apart with_step instead_of_step h e (λ z. omega arith);
        ended_by_step = λ _. record { k = k; before = t; counted = refl; paused_before = p; last_step = r };
        paused_by_step = λ e. absurd (not-paused with_step _ h (λ z. omega arith) e);
        settled = settled;
      }
  promised plain Kept w clock kept settled (step-pauses {k} {t} b p r) =
      record {
        is_call_with_budget = w;
        answer = paused;
        steps = omega arith;
        clock = clock;
        kept = kept;
        paused_exactly = (λ _. (b, λ e. apart at_budget at_entry refl e (λ z. omega arith), λ e. apart at_budget with_step refl e (λ z. omega arith)), λ _. refl);
        refused_at_entry = λ e. apart at_budget at_entry refl e (λ z. omega arith);
        without_step = λ e. absurd (omega arith);
        refused_at_step = λ e. apart at_budget instead_of_step refl e (λ z. omega arith);
        ended_by_step = λ e. apart at_budget with_step refl e (λ z. omega arith);
        paused_by_step = λ _ _. record { k = k; before = t; counted = refl; paused_before = p; last_step = r };
        settled = settled;
      }
