-- Every guarded run by the rules: it ends as they say, and in no other way.
use Prim.Native.Nat.{ℕ, zero, suc, ◌+◌, ◌-◌, ◌<◌}
use mathlib.Core.Path.{◌≡◌, refl, sym, ap, subst, ◌∙◌}
use mathlib.Core.Bool.{Bool, true, false}
use mathlib.Core.List.{[], ◌∷◌}
use native.Mathlib.Omega.{arith}
use lib.Dec.{ltb}
use lib.ListN.{length}
use borrow.Author.Tests.{ltb-true, ltb-false, lt-ltb, le-ltb}
use Rattle.rules.specs.declared.Refusal.{Refusal}
use Rattle.rules.specs.declared.Refusal.TheVariants.{ClockEnd}
use Rattle.rules.specs.declared.Answer.{Answer}
use Rattle.rules.specs.declared.Answer.TheVariants.{Ended, Calling, DelegateCalling, Refused, MarkedSink}
use Rattle.rules.specs.Numbers.{clock_end}
use Rattle.rules.specs.Results.{refuse, GuardedResult, refuses, sink, passes}
use Rattle.rules.specs.Cells.{number_cells, mark_cells}
use Rattle.rules.specs.Step.{Environment, State, Finish, goes_on, ends, calls, delegates, callee, step, RunEnd, stops_at, after_step, on_clock, on_finish}
use Rattle.rules.specs.Guarded.{MarkState, GuardedState, GuardedNext, guarded_step, on_guarded_step, guarded_run}
use Rattle.rules.specs.Answers.{Meaning, outcome, refusal, refusal_meaning, meaning}
use Rattle.rules.specs.LoadedRegisters.{AllInRange}
use Rattle.rules.specs.MarkRules.{Place, Marking, marking_of}
use Rattle.rules.specs.SinkRules.{ReachesSink, AcceptedStep, Comes, start, onward}
use Rattle.rules.specs.GuardedRuns.{RefusedStep, LastStep, RunByRules, paused, refused, stopped, ended, called, delegated, clock}
use Rattle.rules.proofs.Laws.BoolLaws.{false-true, and_left, and_right}
use Rattle.rules.proofs.Laws.Callees.{calling-meaning, delegating-meaning}
use Rattle.rules.proofs.EveryCall.Refusing.{Refusing, refusing-refused}
use Rattle.rules.proofs.EveryCall.StepAnswers.{is_of_step, AtStep, step-refuses}
use Rattle.rules.proofs.MarksAndSinks.SinksExact.{reached-stops, stop-reaches}
use Rattle.rules.proofs.MarksAndSinks.StepsByRules.{guarded-steps}

abbrev Guarded : Type 0
Guarded = GuardedState number_cells mark_cells

abbrev at : State number_cells → MarkState mark_cells → Guarded
at s t = record { plain = s; marks = t }

pointwise : {f g : Marking} → ((x : Place) → f x ≡ g x) → f ≡ g
pointwise h = λ j x. h x j

-- what a run gives, its marks by their places
pub record Ran (r : RunEnd Guarded) (m : Meaning) (k : ℕ) (s : State number_cells) (t : Marking) : Type 0 where
  pub answer : meaning r.answer ≡ m
  pub steps : r.steps ≡ k
  pub plain : r.state.plain ≡ s
  pub marks : (x : Place) → marking_of r.state.marks x ≡ t x

-- The number of a refused step

refused-at : (e : Environment) (s : State number_cells) {f : Refusal} → step number_cells e s ≡ refuse f → AtStep f
refused-at e s h = go (subst (Refusing AtStep) h (step-refuses number_cells mark_cells e s))
  where
    go : {A : Type 0} {f : Refusal} → Refusing AtStep {A = A} (refuse f) → AtStep f
    go (refusing-refused p) = p

refused-step : (e : Environment) (s : State number_cells) (f : Refusal) → step number_cells e s ≡ refuse f
    → (n : ℕ) × (refusal_meaning f ≡ refusal n []) × RefusedStep e s n
refused-step e s f h = go (refusal_meaning f) refl (refused-at e s h)
  where
    go : (m : Meaning) → refusal_meaning f ≡ m → is_of_step m ≡ true → (n : ℕ) × (refusal_meaning f ≡ refusal n []) × RefusedStep e s n
    go (outcome n vs) q t = absurd (false-true t)
    go (refusal n (v ∷ vs)) q t = absurd (false-true t)
    go (refusal n []) q t =
        let l : 3 < n = ltb-true 3 n (and_left (ltb 3 n) (ltb n 17) t) in
        let u : n < 17 = ltb-true n 17 (and_right (ltb 3 n) (ltb n 17) t) in
        (n, q, record { kind = f; number = q; least = omega arith; greatest = omega arith; refused = h })

-- One accepted step more, before a run

below_more : {k n : ℕ} → k < n → suc k < suc n
below_more h = omega arith

module _ {e : Environment} {s s' : State number_cells} {t t' : Marking} (a : AcceptedStep e s t goes_on s' t') (l : s'.clk < clock_end) where
  later : {n k : ℕ} {f : Finish} {s'' : State number_cells} {t'' : Marking} → LastStep e s' t' n k f s'' t'' → LastStep e s t (suc n) (suc k) f s'' t''
  later h = record { below = below_more h.below; state = h.state; marks = h.marks; comes = onward a l h.comes; step = h.step }

  one_more : {n k : ℕ} {m : Meaning} {s'' : State number_cells} {t'' : Marking} → RunByRules e s' t' n m k s'' t'' → RunByRules e s t (suc n) m (suc k) s'' t''
  one_more (paused c) = paused (onward a l c)
  one_more (refused b c u r) = refused (below_more b) (onward a l c) u r
  one_more (stopped b c u) = stopped (below_more b) (onward a l c) u
  one_more (ended h) = ended (later h)
  one_more (called h) = called (later h)
  one_more (delegated h) = delegated (later h)
  one_more (clock h c) = clock (later h) c

module _ (e : Environment) (in_range : AllInRange e.program) where
  abbrev run : ℕ → Guarded → RunEnd Guarded
  run n q = guarded_run number_cells mark_cells e n q

  -- Every run ends as the rules say

  abbrev Ends : ℕ → Guarded → RunEnd Guarded → Type 0
  Ends n q r = RunByRules e q.plain (marking_of q.marks) n (meaning r.answer) r.steps r.state.plain (marking_of r.state.marks)

  module _ (n : ℕ) (q : Guarded) (ten : length q.marks.registers ≡ 10) (rest : (q : Guarded) → length q.marks.registers ≡ 10 → Ends n q (run n q)) where
    module _ (m : GuardedNext number_cells mark_cells) (h : guarded_step number_cells mark_cells e q ≡ passes m) where
      abbrev left : Guarded
      left = at m.next.state m.marks

      accepted : (f : Finish) → m.next.finish ≡ f → AcceptedStep e q.plain (marking_of q.marks) f left.plain (marking_of left.marks)
      accepted f g =
          subst (λ (f : Finish). AcceptedStep e q.plain (marking_of q.marks) f left.plain (marking_of left.marks)) g
          (((guarded-steps e in_range q ten).accepts _ _ _).0 (record { marks = m.marks; accepted = h; places = λ x. refl }))

      last : (f : Finish) → m.next.finish ≡ f → LastStep e q.plain (marking_of q.marks) (suc n) 0 f left.plain (marking_of left.marks)
      last f g = record { below = omega arith; state = q.plain; marks = marking_of q.marks; comes = start; step = accepted f g }

      clock-ends : (b : Bool) → ltb left.plain.clk clock_end ≡ b → m.next.finish ≡ goes_on → Ends (suc n) q (on_clock b left (run n left))
      unfolding meaning refusal_meaning
      clock-ends true c g =
          one_more (accepted goes_on g) (ltb-true left.plain.clk clock_end c) (rest left ((guarded-steps e in_range q ten).ten m h))
      clock-ends false c g = clock (last goes_on g) (ltb-false left.plain.clk clock_end c)

      finish-ends : (f : Finish) → m.next.finish ≡ f → Ends (suc n) q (on_finish f left.plain.clk left (run n))
      unfolding meaning
      finish-ends goes_on g = clock-ends (ltb left.plain.clk clock_end) refl g
      finish-ends ends g = ended (last ends g)
      finish-ends (calls vs) g =
          subst (λ (w : Meaning). RunByRules e q.plain (marking_of q.marks) (suc n) w 1 left.plain (marking_of left.marks))
          (sym (calling-meaning e q.plain left.plain vs (accepted (calls vs) g).next))
          (called (last (calls vs) g))
      finish-ends (delegates vs) g =
          subst (λ (w : Meaning). RunByRules e q.plain (marking_of q.marks) (suc n) w 1 left.plain (marking_of left.marks))
          (sym (delegating-meaning e q.plain left.plain vs (accepted (delegates vs) g).next))
          (delegated (last (delegates vs) g))

    step-ends : (x : GuardedResult (GuardedNext number_cells mark_cells)) → guarded_step number_cells mark_cells e q ≡ x
        → Ends (suc n) q (on_guarded_step number_cells mark_cells q x (run n))
    unfolding meaning
    step-ends (refuses f) h =
        let r = ((guarded-steps e in_range q ten).refuses f).0 h in
        let k = refused-step e q.plain f r.1 in
        subst (λ (w : Meaning). RunByRules e q.plain (marking_of q.marks) (suc n) w 0 q.plain (marking_of q.marks)) (sym k.1)
        (refused {k = 0} (omega arith) start r.0 k.2)
    step-ends sink h = stopped {k = 0} (omega arith) start (stop-reaches e q h)
    step-ends (passes m) h = finish-ends m h m.next.finish refl

  pub run-by-rules : (n : ℕ) (q : Guarded) → length q.marks.registers ≡ 10 → Ends n q (run n q)
  unfolding guarded_run meaning
  run-by-rules zero q ten = paused start
  run-by-rules (suc n) q ten = step-ends n q ten (run-by-rules n) (guarded_step number_cells mark_cells e q) refl

  -- And in no other way

  -- from a state with any marks that are t by their places
  abbrev Runs : ℕ → State number_cells → Marking → Meaning → ℕ → State number_cells → Marking → Type 0
  Runs n s t m k s' t' = (u : MarkState mark_cells) → t ≡ marking_of u → length u.registers ≡ 10 → Ran (run n (at s u)) m k s' t'

  on-clock : (b : Bool) (q : Guarded) (r : RunEnd Guarded) → b ≡ true → on_clock b q r ≡ after_step r
  on-clock true q r h = refl
  on-clock false q r h = absurd (false-true h)

  off-clock : (b : Bool) (q : Guarded) (r : RunEnd Guarded) → b ≡ false → on_clock b q r ≡ after_step (stops_at (Refused ClockEnd) q)
  off-clock true q r h = absurd (false-true (sym h))
  off-clock false q r h = refl

  -- the first step of a run, where the rules accept it
  record First (n : ℕ) (s : State number_cells) (u : MarkState mark_cells) (f : Finish) (s' : State number_cells) (t' : Marking) : Type 0 where
    marks : MarkState mark_cells
    runs : run (suc n) (at s u) ≡ on_finish f s'.clk (at s' marks) (run n)
    places : (x : Place) → marking_of marks x ≡ t' x
    ten : length marks.registers ≡ 10

  first_step : (n : ℕ) {s s' : State number_cells} {t t' : Marking} {f : Finish} → AcceptedStep e s t f s' t'
      → (u : MarkState mark_cells) → t ≡ marking_of u → length u.registers ≡ 10 → First n s u f s' t'
  unfolding guarded_run
  first_step n {s} {s'} {t} {t'} {f} a u h ten =
      let w = ((guarded-steps e in_range (at s u) ten).accepts f s' t').1 (subst (λ (x : Marking). AcceptedStep e s x f s' t') h a) in
      record {
        marks = w.marks;
        runs = ap (λ x. on_guarded_step number_cells mark_cells (at s u) x (run n)) w.accepted;
        places = w.places;
        ten = (guarded-steps e in_range (at s u) ten).ten _ w.accepted;
      }

  -- through the steps that go on
  through : (budget n j : ℕ) {s s' s'' : State number_cells} {t t' t'' : Marking} {k steps : ℕ} {m : Meaning} → Comes e s t k s' t' → Runs n s' t' m j s'' t''
      → budget ≡ k + n → steps ≡ k + j → Runs budget s t m steps s'' t''
  through budget n j {s'' = s''} {t'' = t''} {steps = steps} {m} (start {s}) h b c u p ten =
      let b' : n ≡ budget = omega arith in
      let c' : j ≡ steps = omega arith in
      subst (λ x. Ran (run x (at s u)) m steps s'' t'') b' (subst (λ x. Ran (run n (at s u)) m x s'' t'') c' (h u p ten))
  through zero n j (onward a l r) h b c u p ten = absurd (omega arith)
  through (suc budget) n j {s'' = s''} {t'' = t''} {steps = steps} {m} (onward {s' = s'} a l r) h b c u p ten =
      let w = first_step budget a u p ten in
      let v = through budget n j r h (omega arith) refl w.marks (sym (pointwise w.places)) w.ten in
      let z = w.runs ∙ on-clock (ltb s'.clk clock_end) (at s' w.marks) (run budget (at s' w.marks)) (lt-ltb s'.clk clock_end l) in
      subst (λ x. Ran x m steps s'' t'') (sym z)
      (record { answer = v.answer; steps = ap suc v.steps ∙ (omega arith); plain = v.plain; marks = v.marks })

  -- the step that leaves the run, with an answer that it does not go on from
  leaving : {s s'' : State number_cells} {t t'' : Marking} {budget k : ℕ} {f : Finish} (a : Answer) {m : Meaning} → LastStep e s t budget k f s'' t''
      → ((q : Guarded) (r : Guarded → RunEnd Guarded) → on_finish f s''.clk q r ≡ after_step (stops_at a q)) → meaning a ≡ m
      → Runs budget s t m (suc k) s'' t''
  leaving {s'' = s''} {t'' = t''} {budget} {k} a {m} h out means =
      let l = h.below in
      through budget (suc (budget - suc k)) 1 h.comes
      (λ u p ten.
      let w = first_step (budget - suc k) h.step u p ten in
      subst (λ r. Ran r m 1 s'' t'') (sym (w.runs ∙ out _ (run (budget - suc k)))) (record { answer = means; steps = refl; plain = refl; marks = w.places }))
      (omega arith) (omega arith)

  -- the step that is refused
  refusing : {s s' : State number_cells} {t t' : Marking} {budget k : ℕ} (a : Answer) {m : Meaning} → k < budget → Comes e s t k s' t'
      → ((n : ℕ) (u : MarkState mark_cells) → t' ≡ marking_of u → length u.registers ≡ 10 → run (suc n) (at s' u) ≡ stops_at a (at s' u)) → meaning a ≡ m
      → Runs budget s t m k s' t'
  refusing {s' = s'} {t' = t'} {budget} {k} a {m} b c out means =
      through budget (suc (budget - suc k)) 0 c
      (λ u p ten.
      subst (λ r. Ran r m 0 s' t') (sym (out (budget - suc k) u p ten))
      (record { answer = means; steps = refl; plain = refl; marks = λ x. ap (λ (t : Marking). t x) (sym p) }))
      (omega arith) (omega arith)

  pub rules-run : {s s' : State number_cells} {t t' : Marking} {budget k : ℕ} {m : Meaning} → RunByRules e s t budget m k s' t' → Runs budget s t m k s' t'
  unfolding guarded_run meaning refusal_meaning
  rules-run {budget = budget} (paused c) =
      through budget 0 0 c
      (λ u p ten. record { answer = refl; steps = refl; plain = refl; marks = λ x. ap (λ (t : Marking). t x) (sym p) })
      (omega arith) (omega arith)
  rules-run (refused {s' = s'} b c away r) =
      refusing (Refused r.kind) b c
      (λ n u p ten.
      ap (λ x. on_guarded_step number_cells mark_cells (at s' u) x (run n))
      (((guarded-steps e in_range (at s' u) ten).refuses r.kind).1 (subst (λ (t : Marking). ReachesSink e s' t → ⊥) p away, r.refused)))
      r.number
  rules-run (stopped {s' = s'} b c r) =
      refusing MarkedSink b c
      (λ n u p ten. ap (λ x. on_guarded_step number_cells mark_cells (at s' u) x (run n)) (reached-stops e (at s' u) (subst (ReachesSink e s') p r)))
      refl
  rules-run (ended h) = leaving Ended h (λ q r. refl) refl
  rules-run (called {vs = vs} {s'} h) = leaving (callee Calling vs) h (λ q r. refl) (calling-meaning e h.state s' vs h.step.next)
  rules-run (delegated {vs = vs} {s'} h) = leaving (callee DelegateCalling vs) h (λ q r. refl) (delegating-meaning e h.state s' vs h.step.next)
  rules-run (clock {s' = s'} h c) =
      leaving (Refused ClockEnd) h (λ q r. off-clock (ltb s'.clk clock_end) q (r q) (le-ltb s'.clk clock_end c)) refl
