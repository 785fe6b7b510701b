-- How a plain call of a loaded program ends, from a start that passes entry.
use Prim.Native.Nat.{ℕ, zero, suc, ◌+◌}
use mathlib.Core.Path.{◌≡◌, refl, sym, ap, subst, ◌∙◌}
use mathlib.Core.Bool.{true}
use mathlib.Core.List.{List, []}
use native.Mathlib.Omega.{arith}
use lib.ListN.{length}
use Rattle.rules.specs.declared.Instruction.{Instruction}
use Rattle.rules.specs.declared.Refusal.{Refusal}
use Rattle.rules.specs.declared.Answer.{Answer}
use Rattle.rules.specs.declared.Answer.TheVariants.{Paused, Refused}
use Rattle.rules.specs.Results.{Result, refuse, pass}
use Rattle.rules.specs.Cells.{number_cells, mark_cells}
use Rattle.rules.specs.Step.{Environment, State, Next, Finish, RunEnd, step, on_step, run}
use Rattle.rules.specs.Answers.{outcome, meaning, refusal_meaning}
use Rattle.rules.specs.Entry.{Snapshot, plain_entry, environment, state_of, snapshot_after}
use Rattle.rules.specs.Calls.{Called, plain_run_of, plain_answered, paused_after, plain_call}
use Rattle.rules.specs.Relations.{Both, both-refused, passed}
use Rattle.rules.specs.Soundness.{Sound}
use Rattle.rules.specs.Resumption.{resumed}
use Rattle.rules.specs.EveryCall.{at_entry, instead_of_step, at_budget, when, AnswersAfter, PlainKept, PlainPromised, PlainStepRefused, plain-step-refused, PlainStepLast, plain-step-last}
use Rattle.rules.proofs.Laws.ResultLaws.{refuse-pass, pass-injective}
use Rattle.rules.proofs.Laws.AnswerLaws.{paused-meaning}
use Rattle.rules.proofs.Laws.Passing.{passing-at}
use Rattle.rules.proofs.Soundness.PlainSoundness.{run_sound}
use Rattle.rules.proofs.Soundness.EntrySoundness.{entry-sound}
use Rattle.rules.proofs.Resumption.Resuming.{resumable}
use Rattle.rules.proofs.Resumption.Growth.{Grown, step-grows}
use Rattle.rules.proofs.Resumption.WrittenBehind.{with_written, behind, NextBehind, next-behind, step-behind}
use Rattle.rules.proofs.Resumption.CallSplits.{left-twice, resumed-behind, plain_passes}
use Rattle.rules.proofs.EveryCall.Refusing.{refusing-at}
use Rattle.rules.proofs.EveryCall.StepAnswers.{of-step, step-refuses}
use Rattle.rules.proofs.EveryCall.AnswerTimes.{apart, refusal-answers, after-not-entry, after_same}
use Rattle.rules.proofs.EveryCall.RunEnds.{Decided, stops, accepts, on_decided, paused_run, End, waits, refused, stepped, run_end, run-settles, run-counts}
use Rattle.rules.proofs.EveryCall.Ticks.{step-ticks}
use Rattle.rules.proofs.EveryCall.Restored.{restored}
use Rattle.rules.proofs.EveryCall.Promises as Calls
use Rattle.rules.proofs.EveryCall.Promises.{CallEnd, after-step, promised}

abbrev decided : Result (Next number_cells) → Decided (State number_cells)
decided (refuse f) = stops (Refused f)
decided (pass n) = accepts n.finish n.state.clk n.state

on_same : (s : State number_cells) (x : Result (Next number_cells)) (k : State number_cells → RunEnd (State number_cells))
    → on_step number_cells s x k ≡ on_decided s (decided x) k
on_same s (refuse f) k = refl
on_same s (pass n) k = refl

stopped : (x : Result (Next number_cells)) {a : Answer} → decided x ≡ stops a → (f : Refusal) × (x ≡ refuse f) × (Refused f ≡ a)
stopped (refuse f) e = (f, refl, cc)
stopped (pass n) e = absurd (let z : ◌≡◌ {A = ℕ} 0 1 = cc in omega arith)

-- a step that was accepted, and what it left
record Accepted (x : Result (Next number_cells)) (f : Finish) (clk : ℕ) (t : State number_cells) : Type 0 where
  next : Next number_cells
  passes : x ≡ pass next
  finish : next.finish ≡ f
  clock : next.state.clk ≡ clk
  state : next.state ≡ t

accepted : (x : Result (Next number_cells)) {f : Finish} {clk : ℕ} {t : State number_cells} → decided x ≡ accepts f clk t → Accepted x f clk t
accepted (refuse f) e = absurd (let z : ◌≡◌ {A = ℕ} 0 1 = cc in omega arith)
accepted (pass n) e = record { next = n; passes = refl; finish = cc; clock = cc; state = cc }

module _ (e : Environment) where
  abbrev decide : State number_cells → Decided (State number_cells)
  decide s = decided (step number_cells e s)

  zero-steps : (s : State number_cells) → run number_cells e zero s ≡ paused_run zero s
  unfolding run
  zero-steps s = refl

  more-steps : (n : ℕ) (s : State number_cells) → run number_cells e (suc n) s ≡ on_decided s (decide s) (run number_cells e n)
  unfolding run
  more-steps n s = on_same s (step number_cells e s) (run number_cells e n)

  plain_end : (n : ℕ) (s : State number_cells) → End decide (run number_cells e) n s (run number_cells e n s)
  plain_end = run_end decide (run number_cells e) zero-steps more-steps

  plain-settles : (n more : ℕ) (s : State number_cells) → ((run number_cells e n s).answer ≡ Paused → ⊥)
      → run number_cells e (n + more) s ≡ run number_cells e n s
  plain-settles = run-settles decide (run number_cells e) zero-steps more-steps

  ticks : (s : State number_cells) (f : Finish) (clk : ℕ) (t : State number_cells) → decide s ≡ accepts f clk t → t.clk ≡ suc s.clk
  ticks s f clk t d =
      let x = accepted (step number_cells e s) d in
      sym (ap (λ (t : State number_cells). t.clk) x.state) ∙ passing-at (step-ticks e s) x.passes

  plain-counts : (n : ℕ) (s : State number_cells) → (run number_cells e n s).state.clk ≡ s.clk + (run number_cells e n s).steps
  plain-counts = run-counts decide (run number_cells e) zero-steps more-steps (λ s. s.clk) ticks

  -- no run gives 1, 2 or 3
  past : {n : ℕ} {s : State number_cells} {r : RunEnd (State number_cells)} → End decide (run number_cells e) n s r → when (meaning r.answer) ≡ at_entry → ⊥
  unfolding meaning
  past (waits b) h = apart at_budget at_entry refl h (λ z. omega arith)
  past (refused {t = t} l p d) h =
      let x = stopped (step number_cells e t) d in
      apart instead_of_step at_entry (ap (λ a. when (meaning a)) (sym x.2) ∙ of-step (refusal_meaning x.0) (refusing-at (step-refuses number_cells mark_cells e t) x.1)) h (λ z. omega arith)
  past (stepped l p d k q) h = after-not-entry k h

  pub run_past : (n : ℕ) (s : State number_cells) → when (meaning (run number_cells e n s).answer) ≡ at_entry → ⊥
  run_past n s = past (plain_end n s)

-- The same step from what the call with that much budget left: it sees the same, but for what is written behind the output

refused-too : {w : List ℕ} {x y : Result (Next number_cells)} {f : Refusal} → Both (NextBehind w) x y → x ≡ refuse f → y ≡ refuse f
refused-too both-refused e = e
refused-too (passed h) e = refuse-pass (sym e)

record PassesToo (w : List ℕ) (n : Next number_cells) (y : Result (Next number_cells)) : Type 0 where
  next : Next number_cells
  passes : y ≡ pass next
  behind : NextBehind w n next

passes-too : {w : List ℕ} {x y : Result (Next number_cells)} {n : Next number_cells} → Both (NextBehind w) x y → x ≡ pass n → PassesToo w n y
passes-too both-refused e = refuse-pass e
passes-too {w} (passed {b = m} h) e = record { next = m; passes = refl; behind = subst (λ n. NextBehind w n m) (pass-injective e) h }

module _ (program : List Instruction) (s : Snapshot) (ten : length s.machine.registers ≡ 10) (enters : plain_entry s ≡ true) where
  abbrev here : Environment
  here = environment program s

  abbrev with_budget : ℕ → Called Snapshot
  with_budget k = plain_call (pass program) k s

  paused-call : {k : ℕ} {t : State number_cells} → run number_cells here k (state_of s) ≡ paused_run k t → with_budget k ≡ paused_after k (snapshot_after s t)
  unfolding meaning
  paused-call {k} p = plain_passes program s k enters ∙ ap (plain_answered s) p

  module _ {k : ℕ} {t : State number_cells} (p : run number_cells here k (state_of s) ≡ paused_run k t) where
    sound : Sound here t
    sound =
        subst (Sound here) (ap (λ (r : RunEnd (State number_cells)). r.state) p)
        (run_sound here k (state_of s) (entry-sound program s ten enters))

    -- a step from what is left is one from the state as it is resumed
    from-left : step number_cells (environment program (snapshot_after s t)) (state_of (snapshot_after s t)) ≡ step number_cells here (resumed t)
    from-left = let again = resumable program s t enters sound in λ i. step number_cells (again.environment i) (again.state i)

    both-steps : Both (NextBehind t.written) (step number_cells here t) (step number_cells here (resumed t))
    both-steps = step-behind t.written here (resumed-behind t sound)

    step-is-refused : {f : Refusal} → step number_cells here t ≡ refuse f → PlainStepRefused (pass program) (snapshot_after s t) (refusal_meaning f)
    step-is-refused h = plain-step-refused (from-left ∙ refused-too both-steps h)

    last : {n m : Next number_cells} → NextBehind t.written n m → Grown t n.state → step number_cells here (resumed t) ≡ pass m
        → {a : _} → AnswersAfter n.finish n.state.clk a → PlainStepLast (pass program) (snapshot_after s t) a (snapshot_after s n.state)
    last (next-behind {n} v b) g h {a} d =
        let m : Next number_cells = record { state = with_written n.state v; finish = n.finish } in
        subst (PlainStepLast (pass program) (snapshot_after s t) a) (sym (left-twice s g (behind v b)))
        (plain-step-last m (from-left ∙ h) d)

    step-is-last : (n : Next number_cells) → step number_cells here t ≡ pass n
        → {a : _} → AnswersAfter n.finish n.state.clk a → PlainStepLast (pass program) (snapshot_after s t) a (snapshot_after s n.state)
    step-is-last n h d =
        let too = passes-too both-steps h in
        last too.behind (passing-at (step-grows here t sound) h).1 too.passes d

  -- with no step the state is the start's
  no_step : {k : ℕ} {t : State number_cells} → run number_cells here k (state_of s) ≡ paused_run k t → k ≡ 0 → snapshot_after s t ≡ s
  no_step {k} {t} p z =
      let r : run number_cells here 0 (state_of s) ≡ paused_run k t = ap (λ k. run number_cells here k (state_of s)) (sym z) ∙ p in
      let e : state_of s ≡ t = ap (λ (r : RunEnd (State number_cells)). r.state) (sym (zero-steps here (state_of s)) ∙ r) in
      ap (snapshot_after s) (sym e) ∙ restored s enters

  abbrev Ends : ℕ → Called Snapshot → Type 0
  Ends n c = CallEnd 17 (PlainStepRefused (pass program)) (PlainStepLast (pass program)) with_budget n s c

  call-end : (n : ℕ) {r : RunEnd (State number_cells)} → End (decide here) (run number_cells here) n (state_of s) r → Ends n (plain_answered s r)
  unfolding meaning
  call-end n (waits b) = subst (λ t. Ends n (paused_after 0 t)) (sym (restored s enters)) (Calls.waits b)
  call-end n (refused {k} {t} l p d) =
      let x = stopped (step number_cells here t) d in
      subst (λ a. Ends n (record { answer = meaning a; steps = k; left = snapshot_after s t })) x.2
      (Calls.step-refused (refusal-answers 17 (omega arith) x.0) (of-step (refusal_meaning x.0) (refusing-at (step-refuses number_cells mark_cells here t) x.1)) l (paused-call p)
      (no_step p)
      (step-is-refused p x.1))
  call-end n (stepped {k} {t = t} {a = a} l p d e q) =
      let x = accepted (step number_cells here t) d in
      subst (λ u. Ends n (record { answer = meaning a; steps = suc k; left = snapshot_after s u })) x.state
      (after-step _ _ _ _ _ _ (omega arith) e q l (paused-call p) (step-is-last p x.next x.passes (after_same x.finish x.clock e)))

  sound-end : (n : ℕ) → Sound here (plain_run_of program n s).state
  sound-end n = run_sound here n (state_of s) (entry-sound program s ten enters)

  kept : (n : ℕ) → PlainKept s (snapshot_after s (plain_run_of program n s).state)
  kept n =
      let h = resumable program s (plain_run_of program n s).state enters (sound-end n) in
      record { psp = refl; storage = refl; addresses = h.addresses; numbers = h.numbers; moments = h.moments; tape = h.tape; output = h.output }

  settled : (n more : ℕ) → ((plain_answered s (plain_run_of program n s)).answer ≡ outcome 3 [] → ⊥)
      → with_budget (n + more) ≡ plain_answered s (plain_run_of program n s)
  settled n more h =
      plain_passes program s (n + more) enters
      ∙ ap (plain_answered s) (plain-settles here n more (state_of s) (λ e. h (ap meaning e ∙ paused-meaning)))

  pub plain-entered : (n : ℕ) → PlainPromised (pass program) n s (with_budget n)
  plain-entered n =
      subst (PlainPromised (pass program) n s) (sym (plain_passes program s n enters))
      (promised _ _ _ _ _ _ (λ s. s) PlainKept (sym (plain_passes program s n enters)) (plain-counts here n (state_of s)) (kept n) (settled n)
      (call-end n (plain_end here n (state_of s))))
