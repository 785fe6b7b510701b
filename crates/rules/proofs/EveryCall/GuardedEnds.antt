-- How a guarded call of a loaded program ends, from a start that passes entry.
use Prim.Native.Nat.{ℕ, zero, suc, ◌+◌, ◌≤◌}
use mathlib.Core.Path.{◌≡◌, refl, sym, ap, subst, ◌∙◌}
use mathlib.Core.Bool.{true}
use mathlib.Core.List.{List, []}
use native.Mathlib.Omega.{arith}
use lib.ListN.{length}
use Rattle.rules.specs.declared.Instruction.{Instruction}
use Rattle.rules.specs.declared.Refusal.{Refusal}
use Rattle.rules.specs.declared.Answer.{Answer}
use Rattle.rules.specs.declared.Answer.TheVariants.{Paused, Refused, MarkedSink}
use Rattle.rules.specs.Results.{GuardedResult, refuses, sink, passes, pass}
use Rattle.rules.specs.Cells.{count, number_cells, mark_cells}
use Rattle.rules.specs.Step.{Environment, Finish, RunEnd}
use Rattle.rules.specs.Guarded.{GuardedState, GuardedNext, guarded_step, on_guarded_step, guarded_run}
use Rattle.rules.specs.Answers.{Meaning, outcome, meaning, refusal_meaning}
use Rattle.rules.specs.Entry.{GuardedSnapshot, guarded_entry, environment, guarded_state_of, guarded_snapshot_after}
use Rattle.rules.specs.Calls.{Called, guarded_run_of, guarded_answered, paused_after, guarded_call}
use Rattle.rules.specs.Relations.{BothGuarded, refused-alike, sink-alike, passed-alike}
use Rattle.rules.specs.Soundness.{GuardedSound}
use Rattle.rules.specs.Resumption.{guarded_resumed}
use Rattle.rules.specs.EveryCall.{IsAnswer, at_entry, instead_of_step, at_budget, when, AnswersAfter, GuardedKept, GuardedPromised, GuardedStepRefused, guarded-step-refused, at-sink, GuardedStepLast, guarded-step-last}
use Rattle.rules.specs.EveryCall as Spec
use Rattle.rules.proofs.Laws.AnswerLaws.{paused-meaning}
use Rattle.rules.proofs.Laws.Passing.{passing-guarded-at}
use Rattle.rules.proofs.Soundness.GuardedSoundness.{guarded-step-sound, guarded-run-sound}
use Rattle.rules.proofs.Soundness.EntrySoundness.{guarded-entry-sound}
use Rattle.rules.proofs.Resumption.Resuming.{guarded-resumable}
use Rattle.rules.proofs.Resumption.Growth.{Grown, guarded-step-grows}
use Rattle.rules.proofs.Resumption.WrittenBehind.{with_written, behind, next-behind, guarded-behind, GuardedNextBehind, guarded-next-behind, guarded-step-behind}
use Rattle.rules.proofs.Resumption.CallSplits.{guarded-twice, resumed-behind, guarded-passes, mark-count}
use Rattle.rules.proofs.EveryCall.Refusing.{refusing-guarded-at}
use Rattle.rules.proofs.EveryCall.StepAnswers.{of-step, guarded-step-refuses}
use Rattle.rules.proofs.EveryCall.AnswerTimes.{apart, refusal-answers, after-not-entry, after_same}
use Rattle.rules.proofs.EveryCall.RunEnds.{Decided, stops, accepts, on_decided, paused_run, End, waits, refused, stepped, run_end, run-settles, run-counts}
use Rattle.rules.proofs.EveryCall.Ticks.{guarded-step-ticks}
use Rattle.rules.proofs.EveryCall.Restored.{guarded-restored}
use Rattle.rules.proofs.EveryCall.Promises as Calls
use Rattle.rules.proofs.EveryCall.Promises.{CallEnd, after-step, promised}

abbrev Guarded : Type 0
Guarded = GuardedState number_cells mark_cells

abbrev step_of : Environment → Guarded → GuardedResult (GuardedNext number_cells mark_cells)
step_of e q = guarded_step number_cells mark_cells e q

-- the state that an accepted step leaves
abbrev left_by : GuardedNext number_cells mark_cells → Guarded
left_by n = record { plain = n.next.state; marks = n.marks }

abbrev decided : GuardedResult (GuardedNext number_cells mark_cells) → Decided Guarded
decided (refuses f) = stops (Refused f)
decided sink = stops MarkedSink
decided (passes n) = accepts n.next.finish n.next.state.clk (left_by n)

on_same : (q : Guarded) (x : GuardedResult (GuardedNext number_cells mark_cells)) (k : Guarded → RunEnd Guarded)
    → on_guarded_step number_cells mark_cells q x k ≡ on_decided q (decided x) k
on_same q (refuses f) k = refl
on_same q sink k = refl
on_same q (passes n) k = refl

-- a step that was refused, or accepted and what it left
data Stopped (x : GuardedResult (GuardedNext number_cells mark_cells)) : Answer → Type 0 where
  by-refusal : {f : Refusal} → x ≡ refuses f → Stopped x (Refused f)
  by-sink : x ≡ sink → Stopped x MarkedSink

stopped : (x : GuardedResult (GuardedNext number_cells mark_cells)) {a : Answer} → decided x ≡ stops a → Stopped x a
stopped (refuses f) {a} e = let z : Refused f ≡ a = cc in subst (Stopped (refuses f)) z (by-refusal refl)
stopped sink {a} e = let z : MarkedSink ≡ a = cc in subst (Stopped sink) z (by-sink refl)
stopped (passes n) e = absurd (let z : ◌≡◌ {A = ℕ} 0 1 = cc in omega arith)

record Accepted (x : GuardedResult (GuardedNext number_cells mark_cells)) (f : Finish) (clk : ℕ) (q : Guarded) : Type 0 where
  next : GuardedNext number_cells mark_cells
  passes : x ≡ passes next
  finish : next.next.finish ≡ f
  clock : next.next.state.clk ≡ clk
  state : left_by next ≡ q

accepted : (x : GuardedResult (GuardedNext number_cells mark_cells)) {f : Finish} {clk : ℕ} {q : Guarded} → decided x ≡ accepts f clk q → Accepted x f clk q
accepted (refuses f) e = absurd (let z : ◌≡◌ {A = ℕ} 0 1 = cc in omega arith)
accepted sink e = absurd (let z : ◌≡◌ {A = ℕ} 0 1 = cc in omega arith)
accepted (passes n) e = record { next = n; passes = refl; finish = cc; clock = cc; state = cc }

module _ (e : Environment) where
  abbrev decide : Guarded → Decided Guarded
  decide q = decided (step_of e q)

  abbrev run_of : ℕ → Guarded → RunEnd Guarded
  run_of = guarded_run number_cells mark_cells e

  zero-steps : (q : Guarded) → run_of zero q ≡ paused_run zero q
  unfolding guarded_run
  zero-steps q = refl

  more-steps : (n : ℕ) (q : Guarded) → run_of (suc n) q ≡ on_decided q (decide q) (run_of n)
  unfolding guarded_run
  more-steps n q = on_same q (step_of e q) (run_of n)

  guarded-end : (n : ℕ) (q : Guarded) → End decide run_of n q (run_of n q)
  guarded-end = run_end decide run_of zero-steps more-steps

  guarded-settles : (n more : ℕ) (q : Guarded) → ((run_of n q).answer ≡ Paused → ⊥) → run_of (n + more) q ≡ run_of n q
  guarded-settles = run-settles decide run_of zero-steps more-steps

  ticks : (q : Guarded) (f : Finish) (clk : ℕ) (r : Guarded) → decide q ≡ accepts f clk r → r.plain.clk ≡ suc q.plain.clk
  ticks q f clk r d =
      let x = accepted (step_of e q) d in
      sym (ap (λ (r : Guarded). r.plain.clk) x.state) ∙ passing-guarded-at (guarded-step-ticks e q) x.passes

  guarded-counts : (n : ℕ) (q : Guarded) → (run_of n q).state.plain.clk ≡ q.plain.clk + (run_of n q).steps
  guarded-counts = run-counts decide run_of zero-steps more-steps (λ q. q.plain.clk) ticks

  stopped-when : (q : Guarded) {a : Answer} → Stopped (step_of e q) a → when (meaning a) ≡ instead_of_step
  unfolding meaning
  stopped-when q (by-refusal {f} h) = of-step (refusal_meaning f) (refusing-guarded-at (guarded-step-refuses number_cells mark_cells e q) h)
  stopped-when q (by-sink h) = refl

  -- no run gives 1, 2 or 3
  past : {n : ℕ} {q : Guarded} {r : RunEnd Guarded} → End decide run_of n q r → when (meaning r.answer) ≡ at_entry → ⊥
  unfolding meaning
  past (waits b) h = apart at_budget at_entry refl h (λ z. omega arith)
  past (refused {t = t} l p d) h = apart instead_of_step at_entry (stopped-when t (stopped (step_of e t) d)) h (λ z. omega arith)
  past (stepped l p d k q) h = after-not-entry k h

  pub guarded-run-past : (n : ℕ) (q : Guarded) → when (meaning (guarded_run number_cells mark_cells e n q).answer) ≡ at_entry → ⊥
  guarded-run-past n q = past (guarded-end n q)

-- The same step from what the call with that much budget left: it sees the same, but for what is written behind the output

refused-too : {w : List ℕ} {x y : GuardedResult (GuardedNext number_cells mark_cells)} {a : Answer} → BothGuarded (GuardedNextBehind w) x y → Stopped x a → Stopped y a
refused-too refused-alike h = h
refused-too sink-alike h = h
refused-too (passed-alike b) (by-refusal h) = absurd (let z : ◌≡◌ {A = ℕ} 0 1 = cc in omega arith)
refused-too (passed-alike b) (by-sink h) = absurd (let z : ◌≡◌ {A = ℕ} 0 1 = cc in omega arith)

record PassesToo (w : List ℕ) (n : GuardedNext number_cells mark_cells) (y : GuardedResult (GuardedNext number_cells mark_cells)) : Type 0 where
  next : GuardedNext number_cells mark_cells
  passes : y ≡ passes next
  behind : GuardedNextBehind w n next

passes-too : {w : List ℕ} {x y : GuardedResult (GuardedNext number_cells mark_cells)} {n : GuardedNext number_cells mark_cells}
    → BothGuarded (GuardedNextBehind w) x y → x ≡ passes n → PassesToo w n y
passes-too refused-alike e = absurd (let z : ◌≡◌ {A = ℕ} 0 1 = cc in omega arith)
passes-too sink-alike e = absurd (let z : ◌≡◌ {A = ℕ} 0 1 = cc in omega arith)
passes-too {w} {n = n} (passed-alike {a = x} {b = m} h) e =
    let z : x ≡ n = cc in record { next = m; passes = refl; behind = subst (λ n. GuardedNextBehind w n m) z h }

module _ (program : List Instruction) (g : GuardedSnapshot) (ten : length g.plain.machine.registers ≡ 10) (enters : guarded_entry g ≡ true) where
  abbrev here : Environment
  here = environment program g.plain

  abbrev with_budget : ℕ → Called GuardedSnapshot
  with_budget k = guarded_call (pass program) k g

  abbrev Ends : ℕ → Called GuardedSnapshot → Type 0
  Ends n c = CallEnd 18 (GuardedStepRefused (pass program)) (GuardedStepLast (pass program)) with_budget n g c

  paused-call : {k : ℕ} {q : Guarded} → guarded_run number_cells mark_cells here k (guarded_state_of g) ≡ paused_run k q
      → with_budget k ≡ paused_after k (guarded_snapshot_after g q)
  unfolding meaning
  paused-call {k} p = guarded-passes program g k enters ∙ ap (guarded_answered g) p

  module _ {k : ℕ} {q : Guarded} (p : guarded_run number_cells mark_cells here k (guarded_state_of g) ≡ paused_run k q) where
    abbrev left : GuardedSnapshot
    left = guarded_snapshot_after g q

    sound : GuardedSound here q
    sound =
        subst (GuardedSound here) (ap (λ (r : RunEnd Guarded). r.state) p)
        (guarded-run-sound here k (guarded_state_of g) (guarded-entry-sound program g ten enters))

    -- a step from what is left is one from the state as it is resumed
    from-left : step_of (environment program left.plain) (guarded_state_of left) ≡ step_of here (guarded_resumed q)
    from-left = let again = guarded-resumable program g q enters sound in λ i. step_of (again.plain.environment i) (again.state i)

    both-steps : BothGuarded (GuardedNextBehind q.plain.written) (step_of here q) (step_of here (guarded_resumed q))
    both-steps = guarded-step-behind q.plain.written here (guarded-behind (resumed-behind q.plain sound.plain))

    step-is-refused : {a : Answer} → Stopped (step_of here (guarded_resumed q)) a → GuardedStepRefused (pass program) left (meaning a)
    unfolding meaning
    step-is-refused (by-refusal h) = guarded-step-refused (from-left ∙ h)
    step-is-refused (by-sink h) = at-sink (from-left ∙ h)

    last : {n m : GuardedNext number_cells mark_cells} → GuardedNextBehind q.plain.written n m → Grown q.plain n.next.state
        → count q.marks.cells ≤ count n.marks.cells → step_of here (guarded_resumed q) ≡ passes m
        → {a : Meaning} → AnswersAfter n.next.finish n.next.state.clk a → GuardedStepLast (pass program) left a (guarded_snapshot_after g (left_by n))
    last (guarded-next-behind {u = u} (next-behind {n} v b)) grown c h {a} d =
        let m : GuardedNext number_cells mark_cells = record { next = record { state = with_written n.state v; finish = n.finish }; marks = u } in
        subst (GuardedStepLast (pass program) left a) (sym (guarded-twice g q {r = record { plain = n.state; marks = u }} grown c (guarded-behind (behind v b))))
        (guarded-step-last m (from-left ∙ h) d)

    -- no fewer marks than before
    marks-grown : (n : GuardedNext number_cells mark_cells) → step_of here q ≡ passes n → Grown q.plain n.next.state
        → count q.marks.cells ≤ count n.marks.cells
    marks-grown n h grown =
        let a = grown.cells in
        omega (arith, mark-count sound, mark-count (guarded-step-sound here q sound n h))

    step-is-last : (n : GuardedNext number_cells mark_cells) → step_of here q ≡ passes n
        → {a : Meaning} → AnswersAfter n.next.finish n.next.state.clk a → GuardedStepLast (pass program) left a (guarded_snapshot_after g (left_by n))
    step-is-last n h d =
        let too = passes-too both-steps h in
        let grown = (passing-guarded-at (guarded-step-grows here q sound.plain) h).1 in
        last too.behind grown (marks-grown n h grown) too.passes d

  stopped-answers : {x : GuardedResult (GuardedNext number_cells mark_cells)} {a : Answer} → Stopped x a → IsAnswer 18 (meaning a)
  unfolding meaning
  stopped-answers (by-refusal {f} h) = refusal-answers 18 (omega arith) f
  stopped-answers (by-sink h) = Spec.refused {n = 18} (omega arith) (omega arith) (λ e. omega arith)

  -- with no step the state is the start's
  no_step : {k : ℕ} {q : Guarded} → run_of here k (guarded_state_of g) ≡ paused_run k q → k ≡ 0 → guarded_snapshot_after g q ≡ g
  no_step {k} {q} p z =
      let r : run_of here 0 (guarded_state_of g) ≡ paused_run k q = ap (λ k. run_of here k (guarded_state_of g)) (sym z) ∙ p in
      let e : guarded_state_of g ≡ q = ap (λ (r : RunEnd Guarded). r.state) (sym (zero-steps here (guarded_state_of g)) ∙ r) in
      ap (guarded_snapshot_after g) (sym e) ∙ guarded-restored g enters

  call-end : (n : ℕ) {r : RunEnd Guarded} → End (decide here) (run_of here) n (guarded_state_of g) r → Ends n (guarded_answered g r)
  unfolding meaning
  call-end n (waits b) = subst (λ t. Ends n (paused_after 0 t)) (sym (guarded-restored g enters)) (Calls.waits b)
  call-end n (refused {t = q} l p d) =
      let x = stopped (step_of here q) d in
      Calls.step-refused (stopped-answers x) (stopped-when here q x) l (paused-call p) (no_step p) (step-is-refused p (refused-too (both-steps p) x))
  call-end n (stepped {k} {t = q} {a = a} l p d e b) =
      let x = accepted (step_of here q) d in
      subst (λ u. Ends n (record { answer = meaning a; steps = suc k; left = guarded_snapshot_after g u })) x.state
      (after-step _ _ _ _ _ _ (omega arith) e b l (paused-call p) (step-is-last p x.next x.passes (after_same x.finish x.clock e)))

  sound-end : (n : ℕ) → GuardedSound here (guarded_run_of program n g).state
  sound-end n = guarded-run-sound here n (guarded_state_of g) (guarded-entry-sound program g ten enters)

  kept : (n : ℕ) → GuardedKept g (guarded_snapshot_after g (guarded_run_of program n g).state)
  kept n =
      let h = guarded-resumable program g (guarded_run_of program n g).state enters (sound-end n) in
      let k = h.plain in
      record {
        plain = record { psp = refl; storage = refl; addresses = k.addresses; numbers = k.numbers; moments = k.moments; tape = k.tape; output = k.output };
        marks = h.marks;
      }

  settled : (n more : ℕ) → ((guarded_answered g (guarded_run_of program n g)).answer ≡ outcome 3 [] → ⊥)
      → with_budget (n + more) ≡ guarded_answered g (guarded_run_of program n g)
  settled n more h =
      guarded-passes program g (n + more) enters
      ∙ ap (guarded_answered g) (guarded-settles here n more (guarded_state_of g) (λ e. h (ap meaning e ∙ paused-meaning)))

  pub guarded-entered : (n : ℕ) → GuardedPromised (pass program) n g (with_budget n)
  guarded-entered n =
      subst (GuardedPromised (pass program) n g) (sym (guarded-passes program g n enters))
      (promised _ _ _ _ _ _ (λ g. g.plain) GuardedKept (sym (guarded-passes program g n enters)) (guarded-counts here n (guarded_state_of g)) (kept n) (settled n)
      (call-end n (guarded-end here n (guarded_state_of g))))
