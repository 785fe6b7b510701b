-- How a traced call of a loaded program ends, from a start that passes entry.
use Prim.Native.Nat.{ℕ, zero, suc, ◌+◌}
use mathlib.Core.Path.{◌≡◌, refl, sym, ap, subst, ◌∙◌}
use mathlib.Core.Bool.{true}
use mathlib.Core.List.{List, []}
use native.Mathlib.Omega.{arith}
use lib.ListN.{length, replicate, length-replicate}
use Rattle.rules.specs.declared.Instruction.{Instruction}
use Rattle.rules.specs.declared.Refusal.{Refusal}
use Rattle.rules.specs.declared.Refusal.TheVariants.{CellAbsent}
use Rattle.rules.specs.declared.Answer.{Answer}
use Rattle.rules.specs.declared.Answer.TheVariants.{Paused, Refused, ShortBuffer}
use Rattle.rules.specs.Results.{Result, pass}
use Rattle.rules.specs.Cells.{number_cells, mark_cells}
use Rattle.rules.specs.Step.{Environment, State, Next, Finish, RunEnd, step}
use Rattle.rules.specs.Answers.{Meaning, outcome, meaning, refusal_meaning}
use Rattle.rules.specs.Entry.{Snapshot, plain_entry, environment, state_of, snapshot_after}
use Rattle.rules.specs.Calls.{Called, paused_after, plain_run_of}
use Rattle.rules.specs.Soundness.{Sound}
use Rattle.rules.specs.EveryCall.{IsAnswer, instead_of_step, when, AnswersAfter, PlainStepLast, plain-step-last, Promised}
use Rattle.rules.specs.EveryCall as Every
use Rattle.rules.proofs.Laws.AnswerLaws.{paused-meaning}
use Rattle.rules.proofs.Laws.Passing.{passing-at}
use Rattle.rules.proofs.Soundness.PlainSoundness.{run_sound}
use Rattle.rules.proofs.Soundness.EntrySoundness.{entry-sound}
use Rattle.rules.proofs.Resumption.Resuming.{resumable}
use Rattle.rules.proofs.Resumption.Growth.{Grown, step-grows}
use Rattle.rules.proofs.Resumption.WrittenBehind.{with_written, behind, NextBehind, next-behind}
use Rattle.rules.proofs.Resumption.CallSplits.{left-twice}
use Rattle.rules.proofs.EveryCall.Refusing.{refusing-at}
use Rattle.rules.proofs.EveryCall.StepAnswers.{of-step, step-refuses}
use Rattle.rules.proofs.EveryCall.AnswerTimes.{refusal-answers, after_same}
use Rattle.rules.proofs.EveryCall.RunEnds.{Decided, stops, accepts, on_decided, paused_run, End, waits, refused, stepped, run_end, run-settles, run-counts}
use Rattle.rules.proofs.EveryCall.Ticks.{step-ticks}
use Rattle.rules.proofs.EveryCall.Restored.{restored}
use Rattle.rules.proofs.EveryCall.Promises as Calls
use Rattle.rules.proofs.EveryCall.Promises.{CallEnd, after-step, promised}
use Rattle.sheets.specs.Lines.{lines_text}
use Rattle.sheets.specs.Traced.{refuses, unread, short, passes, TracedState, TracedNext, traced_step, with_line, on_traced_step, traced_run}
use Rattle.sheets.specs.TracedCalls.{TracedSnapshot, traced_state_of, traced_snapshot_after, traced_answered, traced_run_of, traced_call}
use Rattle.sheets.specs.SameRun.{after_lines}
use Rattle.sheets.specs.EveryTracedCall.{TracedStepRefused, by-plain-step, by-further-read, by-sheet, TracedKept}
use Rattle.sheets.proofs.StepViews.{TracedStep, place, apart, is-unread, is-short, both-places, View, view, view-refused, view-unread, view-short, view-passed, lines-count, passes-too, BothTraced, refused-both, unread-both, short-both, passed-both}
use Rattle.sheets.proofs.RunsBeside.{RunEnds, as_plain, at-unread, at-short, run_ends, plain-paused}
use Rattle.sheets.proofs.RunLines.{run-lines}
use Rattle.sheets.proofs.SameRunHolds.{here, sound, both-steps, traced-passes}
use Rattle.sheets.proofs.SheetLinesHold.{call-sheet}

-- the promises that every call gets, of a traced one
abbrev pub TracedPlainly : Result (List Instruction) → ℕ → TracedSnapshot → Called TracedSnapshot → Type 0
TracedPlainly program budget t c =
    Promised (λ t. t.plain) TracedKept 19 (TracedStepRefused program) (λ t a u. PlainStepLast program t.plain a u.plain)
    (λ k. traced_call program k t) budget t c

-- Steps as they are decided

abbrev decided : TracedState number_cells → TracedStep → Decided (TracedState number_cells)
decided q (refuses f) = stops (Refused f)
decided q unread = stops (Refused CellAbsent)
decided q short = stops ShortBuffer
decided q (passes n) = accepts n.next.finish n.next.state.clk (with_line number_cells q n)

on_same : (q : TracedState number_cells) (x : TracedStep) (k : TracedState number_cells → RunEnd (TracedState number_cells))
    → on_traced_step number_cells q x k ≡ on_decided q (decided q x) k
on_same q (refuses f) k = refl
on_same q unread k = refl
on_same q short k = refl
on_same q (passes n) k = refl

-- what a step that stops says, and one that is accepted
data Stopped (x : TracedStep) : Answer → Type 0 where
  by-refusal : (f : Refusal) → x ≡ refuses f → Stopped x (Refused f)
  by_read : x ≡ unread → Stopped x (Refused CellAbsent)
  by-short : x ≡ short → Stopped x ShortBuffer

abbrev stop_of : Decided (TracedState number_cells) → Answer
stop_of (stops a) = a
stop_of (accepts f clk q) = Paused

abbrev is_stop : Decided (TracedState number_cells) → ℕ
is_stop (stops a) = 0
is_stop (accepts f clk q) = 1

stopped : (q : TracedState number_cells) (x : TracedStep) {a : Answer} → decided q x ≡ stops a → Stopped x a
stopped q (refuses f) e = subst (Stopped (refuses f)) (ap stop_of e) (by-refusal f refl)
stopped q unread e = subst (Stopped unread) (ap stop_of e) (by_read refl)
stopped q short e = subst (Stopped short) (ap stop_of e) (by-short refl)
stopped q (passes n) e = absurd (let z = ap is_stop e in omega arith)

record Accepted (q : TracedState number_cells) (x : TracedStep) (f : Finish) (clk : ℕ) (u : TracedState number_cells) : Type 0 where
  next : TracedNext number_cells
  passed : x ≡ passes next
  finish : next.next.finish ≡ f
  clock : next.next.state.clk ≡ clk
  state : with_line number_cells q next ≡ u

accepted : (q : TracedState number_cells) (x : TracedStep) {f : Finish} {clk : ℕ} {u : TracedState number_cells}
    → decided q x ≡ accepts f clk u → Accepted q x f clk u
accepted q (refuses f) e = absurd (let z = ap is_stop e in omega arith)
accepted q unread e = absurd (let z = ap is_stop e in omega arith)
accepted q short e = absurd (let z = ap is_stop e in omega arith)
accepted q (passes n) e = record { next = n; passed = refl; finish = cc; clock = cc; state = cc }

module _ (e : Environment) (sheet : ℕ) where
  -- The run, as one that goes from step to step

  abbrev decide : TracedState number_cells → Decided (TracedState number_cells)
  decide q = decided q (traced_step number_cells e sheet q)

  zero-steps : (q : TracedState number_cells) → traced_run number_cells e sheet zero q ≡ paused_run zero q
  unfolding traced_run
  zero-steps q = refl

  more-steps : (n : ℕ) (q : TracedState number_cells)
      → traced_run number_cells e sheet (suc n) q ≡ on_decided q (decide q) (traced_run number_cells e sheet n)
  unfolding traced_run
  more-steps n q = on_same q (traced_step number_cells e sheet q) (traced_run number_cells e sheet n)

  traced-end : (n : ℕ) (q : TracedState number_cells) → End decide (traced_run number_cells e sheet) n q (traced_run number_cells e sheet n q)
  traced-end = run_end decide (traced_run number_cells e sheet) zero-steps more-steps

  traced-settles : (n more : ℕ) (q : TracedState number_cells) → ((traced_run number_cells e sheet n q).answer ≡ Paused → ⊥)
      → traced_run number_cells e sheet (n + more) q ≡ traced_run number_cells e sheet n q
  traced-settles = run-settles decide (traced_run number_cells e sheet) zero-steps more-steps

  ticks : (q : TracedState number_cells) (f : Finish) (clk : ℕ) (u : TracedState number_cells) → decide q ≡ accepts f clk u
      → u.plain.clk ≡ suc q.plain.clk
  ticks q f clk u d =
      let x = accepted q (traced_step number_cells e sheet q) d in
      sym (ap (λ (u : TracedState number_cells). u.plain.clk) x.state)
      ∙ passing-at (step-ticks e q.plain) (view-passed e sheet x.next (view e sheet q) x.passed).0

  traced-counts : (n : ℕ) (q : TracedState number_cells)
      → (traced_run number_cells e sheet n q).state.plain.clk ≡ q.plain.clk + (traced_run number_cells e sheet n q).steps
  traced-counts = run-counts decide (traced_run number_cells e sheet) zero-steps more-steps (λ q. q.plain.clk) ticks

-- The step from what the call with that much budget left

refused-too : {e : Environment} {sheet : ℕ} {w : List ℕ} {x y : TracedStep} (f : Refusal) → BothTraced e sheet w x y → x ≡ refuses f
    → y ≡ refuses f
refused-too f refused-both h = h
refused-too f unread-both h = h
refused-too f short-both h = h
refused-too f (passed-both k) h = apart _ (refuses f) refl h (λ z. omega arith)

module _ (program : List Instruction) (t : TracedSnapshot) (ten : length t.plain.machine.registers ≡ 10)
    (enters : plain_entry t.plain ≡ true) where
  abbrev e : Environment
  e = here program t ten enters

  abbrev bytes : ℕ
  bytes = length t.sheet

  abbrev with_budget : ℕ → Called TracedSnapshot
  with_budget k = traced_call (pass program) k t

  paused-call : {k : ℕ} {q : TracedState number_cells} → traced_run_of program k t ≡ paused_run k q
      → with_budget k ≡ paused_after k (traced_snapshot_after t q)
  unfolding meaning
  paused-call {k} p = traced-passes program t ten enters k ∙ ap (traced_answered t) p

  module _ {k : ℕ} {q : TracedState number_cells} (p : traced_run_of program k t ≡ paused_run k q) where
    abbrev left : Snapshot
    left = snapshot_after t.plain q.plain

    plain : plain_run_of program k t.plain ≡ paused_run k q.plain
    plain = plain-paused e bytes k (traced_state_of t) p

    count : length q.lines ≡ k
    count =
        let h = run-lines e bytes k (traced_state_of t) in
        sym (ap (λ (r : RunEnd (TracedState number_cells)). length r.state.lines) p)
        ∙ ap length h.added
        ∙ h.count
        ∙ ap (λ (r : RunEnd (TracedState number_cells)). r.steps) p

    abbrev from_left : TracedStep
    from_left = traced_step number_cells (environment program left) bytes (after_lines k left)

    both : BothTraced e bytes q.plain.written (traced_step number_cells e bytes q) from_left
    both =
        subst (λ x. BothTraced e bytes q.plain.written x from_left)
        (lines-count e bytes q.plain (replicate k []) q.lines (length-replicate k [] ∙ sym count))
        (both-steps program t ten enters plain)

    left-view : View (environment program left) bytes (after_lines k left)
        (step number_cells (environment program left) (state_of left)) from_left
    left-view = view (environment program left) bytes (after_lines k left)

    step-is-refused : {a : Answer} → Stopped (traced_step number_cells e bytes q) a
        → TracedStepRefused (pass program) (traced_snapshot_after t q) (meaning a)
    unfolding meaning refusal_meaning
    step-is-refused (by-refusal f h) =
        let v = view-refused (environment program left) bytes f left-view (refused-too f both h) in
        by-plain-step v.0 v.1
    step-is-refused (by_read h) =
        by-further-read (view-unread (environment program left) bytes left-view (is-unread _ (sym (both-places e bytes both) ∙ ap place h)))
    step-is-refused (by-short h) =
        let v = view-short (environment program left) bytes left-view (is-short _ (sym (both-places e bytes both) ∙ ap place h)) in
        by-sheet v.0 v.1 v.2

    last : {n m : Next number_cells} → NextBehind q.plain.written n m → Grown q.plain n.state
        → step number_cells (environment program left) (state_of left) ≡ pass m
        → {a : Meaning} → AnswersAfter n.finish n.state.clk a
        → PlainStepLast (pass program) left a (snapshot_after t.plain n.state)
    last (next-behind {n} v b) g h {a} d =
        let m : Next number_cells = record { state = with_written n.state v; finish = n.finish } in
        subst (PlainStepLast (pass program) left a) (sym (left-twice t.plain g (behind v b))) (plain-step-last m h d)

    step-is-last : (n : TracedNext number_cells) → traced_step number_cells e bytes q ≡ passes n
        → {a : Meaning} → AnswersAfter n.next.finish n.next.state.clk a
        → PlainStepLast (pass program) left a (snapshot_after t.plain n.next.state)
    step-is-last n h d =
        let too = passes-too e bytes n both h in
        let grown = (passing-at (step-grows e q.plain (sound program t ten enters plain))
        (view-passed e bytes n (view e bytes q) h).0).1 in
        last too.behind grown (view-passed (environment program left) bytes _ left-view too.passed).0 d

  -- with no step everything is the start's
  start-again : traced_snapshot_after t (traced_state_of t) ≡ t
  unfolding lines_text
  start-again = λ i. record { plain = restored t.plain enters i; sheet = t.sheet }

  no_step : {k : ℕ} {q : TracedState number_cells} → traced_run_of program k t ≡ paused_run k q → k ≡ 0 → traced_snapshot_after t q ≡ t
  no_step {k} {q} p z =
      let r : traced_run_of program 0 t ≡ paused_run k q = ap (λ k. traced_run_of program k t) (sym z) ∙ p in
      let h : traced_state_of t ≡ q =
      ap (λ (r : RunEnd (TracedState number_cells)). r.state) (sym (zero-steps e bytes (traced_state_of t)) ∙ r)
      in
      ap (traced_snapshot_after t) (sym h) ∙ start-again

  abbrev Ends : ℕ → Called TracedSnapshot → Type 0
  Ends n c = CallEnd 19 (TracedStepRefused (pass program)) (λ t a u. PlainStepLast (pass program) t.plain a u.plain) with_budget n t c

  -- 4 to 16, the further read's 11, and 19
  stop-answers : (q : TracedState number_cells) {a : Answer} → Stopped (traced_step number_cells e bytes q) a
      → IsAnswer 19 (meaning a) × (when (meaning a) ≡ instead_of_step)
  unfolding meaning refusal_meaning
  stop-answers q (by-refusal f h) =
      let s = (view-refused e bytes f (view e bytes q) h).1 in
      (refusal-answers 19 (omega arith) f, of-step (refusal_meaning f) (refusing-at (step-refuses number_cells mark_cells e q.plain) s))
  stop-answers q (by_read h) = (Every.refused {n = 11} (omega arith) (omega arith) (λ z. omega arith), refl)
  stop-answers q (by-short h) = (Every.refused {n = 19} (omega arith) (omega arith) (λ z. omega arith), refl)

  call-end : (n : ℕ) {r : RunEnd (TracedState number_cells)} → End (decide e bytes) (traced_run number_cells e bytes) n (traced_state_of t) r
      → Ends n (traced_answered t r)
  unfolding meaning
  call-end n (waits b) = subst (λ t. Ends n (paused_after 0 t)) (sym start-again) (Calls.waits b)
  call-end n (refused {t = q} l p d) =
      let x = stopped q (traced_step number_cells e bytes q) d in
      let a = stop-answers q x in
      Calls.step-refused a.0 a.1 l (paused-call p) (no_step p) (step-is-refused p x)
  call-end n (stepped {k} {t = q} {a = a} l p d f c) =
      let x = accepted q (traced_step number_cells e bytes q) d in
      subst (λ u. Ends n (record { answer = meaning a; steps = suc k; left = traced_snapshot_after t u })) x.state
      (after-step _ _ _ _ _ _ (omega arith) f c l (paused-call p)
      (step-is-last p x.next x.passed (after_same x.finish x.clock f)))

  ends-sound : (n : ℕ) {r : RunEnd (State number_cells)} → RunEnds e bytes n (traced_state_of t) r → Sound e r.state
  ends-sound n (as_plain h) = run_sound e n (state_of t.plain) (entry-sound program t.plain ten enters)
  ends-sound n (at-unread l h p x) = sound program t ten enters p
  ends-sound n (at-short l h p x) = sound program t ten enters p

  kept : (n : ℕ) → TracedKept t (traced_snapshot_after t (traced_run_of program n t).state)
  kept n =
      let h = resumable program t.plain (traced_run_of program n t).state.plain enters
      (ends-sound n (run_ends e bytes n (traced_state_of t))) in
      record {
        plain = record { psp = refl; storage = refl; addresses = h.addresses; numbers = h.numbers; moments = h.moments; tape = h.tape; output = h.output };
        sheet = subst (λ (c : Called TracedSnapshot). length c.left.sheet ≡ length t.sheet) (traced-passes program t ten enters n)
            (call-sheet (pass program) n t ten).long;
      }

  settled : (n more : ℕ) → ((traced_answered t (traced_run_of program n t)).answer ≡ outcome 3 [] → ⊥)
      → with_budget (n + more) ≡ traced_answered t (traced_run_of program n t)
  settled n more h =
      traced-passes program t ten enters (n + more)
      ∙ ap (traced_answered t) (traced-settles e bytes n more (traced_state_of t) (λ z. h (ap meaning z ∙ paused-meaning)))

  pub traced-entered : (n : ℕ) → TracedPlainly (pass program) n t (with_budget n)
  traced-entered n =
      subst (TracedPlainly (pass program) n t) (sym (traced-passes program t ten enters n))
      (promised _ _ _ _ _ _ (λ t. t.plain) TracedKept (sym (traced-passes program t ten enters n))
      (traced-counts e bytes n (traced_state_of t)) (kept n) (settled n)
      (call-end n (traced-end e bytes n (traced_state_of t))))
