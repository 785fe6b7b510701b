-- A traced run, step by step: after a step that goes on, what is left of it is the traced run from the snapshot that the step leaves.
use Prim.Native.Nat.{ℕ, zero, suc, ◌<◌}
use mathlib.Core.Path.{◌≡◌, refl, sym, ap, subst, ◌∙◌}
use mathlib.Core.Bool.{Bool, true, false}
use mathlib.Core.List.{List, [], ◌∷◌, ◌++◌}
use native.Mathlib.Omega.{arith}
use lib.Dec.{ltb}
use lib.ListN.{length}
use borrow.Author.Tests.{ltb-true}
use Rattle.rules.specs.declared.Answer.TheVariants.{Ended, Calling, DelegateCalling, Paused, Refused, ShortBuffer}
use Rattle.rules.specs.declared.Instruction.{Instruction}
use Rattle.rules.specs.declared.Refusal.{Refusal}
use Rattle.rules.specs.declared.Refusal.TheVariants.{CellAbsent, ClockEnd}
use Rattle.rules.specs.Numbers.{clock_end}
use Rattle.rules.specs.Results.{Result}
use Rattle.rules.specs.Cells.{number_cells}
use Rattle.rules.specs.Step.{Environment, State, Next, Finish, goes_on, ends, calls, delegates, RunEnd, stops_at, after_step, on_clock, on_finish, step}
use Rattle.rules.specs.Entry.{Snapshot, plain_entry, environment, state_of, snapshot_after}
use Rattle.rules.specs.Relations.{BothRan}
use Rattle.rules.specs.Soundness.{Sound}
use Rattle.rules.specs.Resumption.{resumed, Resumable}
use Rattle.rules.proofs.Laws.Relational.{both-finish}
use Rattle.rules.proofs.Laws.Passing.{passing-at, finish-keeps}
use Rattle.rules.proofs.Soundness.PlainSoundness.{step-sound}
use Rattle.rules.proofs.Soundness.EntrySoundness.{entry-sound}
use Rattle.rules.proofs.Resumption.Resuming.{resumable}
use Rattle.rules.proofs.Resumption.Growth.{Grown, grown-same, grown-twice, step-grows}
use Rattle.rules.proofs.Resumption.WrittenBehind.{with_written, Behind, behind, next-behind}
use Rattle.rules.proofs.Resumption.CallSplits.{left-twice, resumed-behind}
use Rattle.sheets.specs.Traced.{TracedState, traced_step, with_line, on_traced_step, traced_run}
use Rattle.sheets.specs.StepBeside.{line_here}
use Rattle.sheets.specs.TracedEnds.{TracedEnd, end_at, end_of, one_more}
use Rattle.sheets.proofs.StepViews.{TracedStep, View, refused-view, unread-view, short-view, passed-view, view, BothTraced, refused-both, unread-both, short-both, passed-both, traced-behind}

abbrev Traced : Type 0
Traced = TracedState number_cells

-- What is written behind the output is not looked at

pub data TracedBehind (w : List ℕ) : Traced → Traced → Type 0 where
  behind-lines : {s t : State number_cells} {ls : List (List ℕ)} → Behind w s t
      → TracedBehind w (record { plain = s; lines = ls }) (record { plain = t; lines = ls })

module _ (w : List ℕ) (e : Environment) (sheet : ℕ) where
  on-traced : (k : Traced → RunEnd Traced) {q r : Traced} {x y : TracedStep} → TracedBehind w q r → BothTraced e sheet w x y
      → ((q r : Traced) → TracedBehind w q r → BothRan (TracedBehind w) (k q) (k r))
      → BothRan (TracedBehind w) (on_traced_step number_cells q x k) (on_traced_step number_cells r y k)
  on-traced k h refused-both g = record { answer = refl; steps = refl; state = h }
  on-traced k h unread-both g = record { answer = refl; steps = refl; state = h }
  on-traced k h short-both g = record { answer = refl; steps = refl; state = h }
  on-traced k (behind-lines {ls = ls} b) (passed-both {l = l} (next-behind {n} v h)) g =
      let c : TracedBehind w (record { plain = n.state; lines = ls ++ (l ∷ []) })
      (record { plain = with_written n.state v; lines = ls ++ (l ∷ []) })
      = behind-lines (behind v h) in
      both-finish (TracedBehind w) {f = n.finish} {m = n.state.clk} _ _ k k refl refl c (g _ _ c)

  run-related : (budget : ℕ) (q r : Traced) → TracedBehind w q r
      → BothRan (TracedBehind w) (traced_run number_cells e sheet budget q) (traced_run number_cells e sheet budget r)
  unfolding traced_run
  run-related zero q r h = record { answer = refl; steps = refl; state = h }
  run-related (suc budget) q r (behind-lines {ls = ls} b) =
      on-traced (traced_run number_cells e sheet budget) (behind-lines b) (traced-behind e sheet ls b) (run-related budget)

module _ (e : Environment) (sheet : ℕ) where
  -- a traced run grows as a plain one does
  on-grows : (q : Traced) {x : Result (Next number_cells)} {y : TracedStep} (k : Traced → RunEnd Traced) → Sound e q.plain
      → step number_cells e q.plain ≡ x → View e sheet q x y
      → ((r : Traced) → Sound e r.plain → Grown r.plain (k r).state.plain)
      → Grown q.plain (on_traced_step number_cells q y k).state.plain
  on-grows q k h c (refused-view u) g = grown-same q.plain
  on-grows q k h c (unread-view u) g = grown-same q.plain
  on-grows q k h c (short-view u v) g = grown-same q.plain
  on-grows q k h c (passed-view {n} u v) g =
      let l = passing-at (step-grows e q.plain h) c in
      let r = with_line number_cells q (record { next = n; line = line_here number_cells e q.plain n }) in
      finish-keeps (λ r. Grown q.plain r.plain) n.finish n.state.clk r k l.1 (grown-twice l.1 (g r l.0))

  run-grows : (budget : ℕ) (q : Traced) → Sound e q.plain → Grown q.plain (traced_run number_cells e sheet budget q).state.plain
  unfolding traced_run
  run-grows zero q h = grown-same q.plain
  run-grows (suc budget) q h = on-grows q (traced_run number_cells e sheet budget) h refl (view e sheet q) (run-grows budget)

-- A step goes on, or is the last

not-ended : Ended ≡ Paused → ⊥
not-ended h = let z : ◌≡◌ {A = ℕ} 0 1 = cc in omega arith

not-calling : (a b c d : ℕ) → Calling a b c d ≡ Paused → ⊥
not-calling a b c d h = let z : ◌≡◌ {A = ℕ} 0 1 = cc in omega arith

not-delegating : (a b c d : ℕ) → DelegateCalling a b c d ≡ Paused → ⊥
not-delegating a b c d h = let z : ◌≡◌ {A = ℕ} 0 1 = cc in omega arith

not-refused : (f : Refusal) → Refused f ≡ Paused → ⊥
not-refused f h = let z : ◌≡◌ {A = ℕ} 0 1 = cc in omega arith

not_short : ShortBuffer ≡ Paused → ⊥
not_short h = let z : ◌≡◌ {A = ℕ} 0 1 = cc in omega arith

-- `run` is what follows a step, by the rest of the run from a state
data GoesOrStops {S : Type 0} (P : S → Type 0) (run : (S → RunEnd S) → RunEnd S) : Type 0 where
  goes : (t : S) → P t → ((k : S → RunEnd S) → run k ≡ after_step (k t)) → GoesOrStops P run
  stops : ((run (stops_at Paused)).answer ≡ Paused → ⊥) → ((k : S → RunEnd S) → run k ≡ run (stops_at Paused)) → GoesOrStops P run

module _ {S : Type 0} (P : S → Type 0) (clk : ℕ) (t : S) where
  clock-goes : (b : Bool) → (b ≡ true → P t) → GoesOrStops P (λ k. on_clock b t (k t))
  clock-goes true h = goes t (h refl) (λ k. refl)
  clock-goes false h = stops (not-refused ClockEnd) (λ k. refl)

  finish-goes : (f : Finish) → (ltb clk clock_end ≡ true → P t) → GoesOrStops P (on_finish f clk t)
  finish-goes goes_on h = clock-goes (ltb clk clock_end) h
  finish-goes ends h = stops not-ended (λ k. refl)
  finish-goes (calls vs) h = stops (not-calling _ _ _ _) (λ k. refl)
  finish-goes (delegates vs) h = stops (not-delegating _ _ _ _) (λ k. refl)

-- From snapshot to snapshot

module _ (program : List Instruction) (sheet : ℕ) (s : Snapshot) (ten : length s.machine.registers ≡ 10) (fit : plain_entry s ≡ true) where
  abbrev e : Environment
  e = environment program s

  sound : Sound e (state_of s)
  sound = entry-sound program s ten fit

  -- from the state t that a step left
  module _ (t : State number_cells) (h : Sound e t) (ls : List (List ℕ)) where
    again : Resumable program s t
    again = resumable program s t fit h

    ends-alike : (r q : RunEnd Traced) → Grown t r.state.plain → BothRan (TracedBehind t.written) r q → end_at s r ≡ end_at (snapshot_after s t) q
    ends-alike r q g b = λ i. record { answer = b.answer i; steps = b.steps i; left = lefts i; lines = ls-same b.state i }
      where
        lefts-of : {x y : Traced} → Grown t x.plain → TracedBehind t.written x y → snapshot_after s x.plain ≡ snapshot_after (snapshot_after s t) y.plain
        lefts-of g (behind-lines b) = left-twice s g b

        ls-same : {x y : Traced} → TracedBehind t.written x y → x.lines ≡ y.lines
        ls-same (behind-lines b) = refl

        lefts : snapshot_after s r.state.plain ≡ snapshot_after (snapshot_after s t) q.state.plain
        lefts = lefts-of g b.state

    pub continues : (budget : ℕ) → end_at s (traced_run number_cells e sheet budget (record { plain = t; lines = ls })) ≡ end_of program sheet budget (snapshot_after s t) ls
    continues budget =
        ends-alike (traced_run number_cells e sheet budget (record { plain = t; lines = ls })) (traced_run number_cells e sheet budget (record { plain = resumed t; lines = ls }))
        (run-grows e sheet budget (record { plain = t; lines = ls }) h)
        (run-related t.written e sheet budget (record { plain = t; lines = ls }) (record { plain = resumed t; lines = ls }) (behind-lines (resumed-behind t h)))
        ∙ (λ i. end_at (snapshot_after s t) (traced_run number_cells (sym again.environment i) sheet budget (record { plain = sym again.state i; lines = ls })))

  -- One step, and the rest of the run

  module _ (ls : List (List ℕ)) where
    abbrev q : Traced
    q = record { plain = state_of s; lines = ls }

    abbrev Further : Traced → Type 0
    Further r = Sound e r.plain × (r.plain.clk < clock_end)

    step-goes : {x : Result (Next number_cells)} {y : TracedStep} → step number_cells e (state_of s) ≡ x → View e sheet q x y
        → GoesOrStops Further (on_traced_step number_cells q y)
    step-goes c (refused-view u) = stops (not-refused _) (λ k. refl)
    step-goes c (unread-view u) = stops (not-refused CellAbsent) (λ k. refl)
    step-goes c (short-view u v) = stops not_short (λ k. refl)
    step-goes c (passed-view {n} u v) =
        finish-goes Further n.state.clk (with_line number_cells q (record { next = n; line = line_here number_cells e (state_of s) n })) n.finish
        (λ b. (passing-at (step-sound e (state_of s) sound) c, ltb-true _ _ b))

    -- of the step, as a run with budget 1
    abbrev one : TracedEnd
    one = end_of program sheet 1 s ls

    run-one : (budget : ℕ) → traced_run number_cells e sheet (suc budget) q ≡ on_traced_step number_cells q (traced_step number_cells e sheet q) (traced_run number_cells e sheet budget)
    unfolding traced_run
    run-one budget = refl

    run_none : (r : Traced) → traced_run number_cells e sheet 0 r ≡ stops_at Paused r
    unfolding traced_run
    run_none r = refl

    -- what the step is to the run
    pub record StepGoesOn : Type 0 where
      pub counted : one.steps ≡ 1
      pub enters : plain_entry one.left ≡ true
      pub registers : length one.left.machine.registers ≡ 10
      pub rest : (budget : ℕ) → end_of program sheet (suc budget) s ls ≡ one_more (end_of program sheet budget one.left one.lines)

    pub data StepIs : Type 0 where
      step_goes_on : one.answer ≡ Paused → StepGoesOn → StepIs
      is_last : (one.answer ≡ Paused → ⊥) → ((budget : ℕ) → end_of program sheet (suc budget) s ls ≡ one) → StepIs

    -- a step that leaves the state t
    module _ (t : Traced) (f : Further t) (h : (k : Traced → RunEnd Traced) → on_traced_step number_cells q (traced_step number_cells e sheet q) k ≡ after_step (k t)) where
      one-is : one ≡ one_more (end_at s (stops_at Paused t))
      one-is = ap (end_at s) (run-one 0 ∙ h (traced_run number_cells e sheet 0) ∙ ap after_step (run_none t))

      on-from : (r : TracedEnd) → r ≡ one_more (end_at s (stops_at Paused t))
          → (r.steps ≡ 1) × (plain_entry r.left ≡ true) × (length r.left.machine.registers ≡ 10)
          × ((budget : ℕ) → end_of program sheet (suc budget) s ls ≡ one_more (end_of program sheet budget r.left r.lines))
      on-from r g =
          subst
          (λ r. (r.steps ≡ 1) × (plain_entry r.left ≡ true) × (length r.left.machine.registers ≡ 10)
          × ((budget : ℕ) → end_of program sheet (suc budget) s ls ≡ one_more (end_of program sheet budget r.left r.lines)))
          (sym g) (
            refl,
            (again t.plain f.0 t.lines).entry f.1,
            f.0.ten,
            λ budget. ap (end_at s) (run-one budget ∙ h (traced_run number_cells e sheet budget)) ∙ ap one_more (continues t.plain f.0 t.lines budget),
          )

      goes-from : StepIs
      goes-from =
          let r = on-from one one-is in
          step_goes_on (ap (λ r. r.answer) one-is) (record { counted = r.0; enters = r.1; registers = r.2; rest = r.3 })

    from_either : GoesOrStops Further (on_traced_step number_cells q (traced_step number_cells e sheet q)) → StepIs
    from_either (goes t f h) = goes-from t f h
    from_either (stops n h) =
        let z : traced_run number_cells e sheet 1 q ≡ on_traced_step number_cells q (traced_step number_cells e sheet q) (stops_at Paused) = run-one 0 ∙ h (traced_run number_cells e sheet 0) in
        is_last (λ p. n (sym (ap (λ r. r.answer) z) ∙ p)) (λ budget. ap (end_at s) (run-one budget ∙ h (traced_run number_cells e sheet budget) ∙ sym z))

    pub step_is : StepIs
    step_is = from_either (step-goes refl (view e sheet q))
