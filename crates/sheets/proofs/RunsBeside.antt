-- The traced run beside the plain run: the same, up to the step at which the further read finds nothing or the sheet is too short.
use Prim.Native.Nat.{ℕ, zero, suc, ◌+◌, ◌<◌}
use mathlib.Core.Path.{◌≡◌, refl, sym, ap, subst, ◌∙◌}
use mathlib.Core.Bool.{Bool, true, false}
use mathlib.Core.List.{List, [], ◌∷◌, ◌++◌}
use native.Mathlib.Omega.{arith}
use lib.Dec.{ltb}
use lib.ListN.{length, length-append, replicate, length-replicate}
use Rattle.rules.specs.declared.Refusal.TheVariants.{CellAbsent}
use Rattle.rules.specs.declared.Answer.{Answer}
use Rattle.rules.specs.declared.Answer.TheVariants.{Paused, Refused, ShortBuffer}
use Rattle.rules.specs.Numbers.{clock_end}
use Rattle.rules.specs.Results.{Result, pass}
use Rattle.rules.specs.Cells.{number_cells}
use Rattle.rules.specs.Step.{Environment, State, Next, Finish, goes_on, ends, calls, delegates, RunEnd, stops_at, after_step, on_clock, on_finish, step, on_step, run}
use Rattle.rules.proofs.EveryCall.RunEnds.{paused_run}
use Rattle.sheets.specs.Traced.{unread, short, passes, TracedState, TracedNext, traced_step, with_line, on_traced_step, traced_run}
use Rattle.sheets.specs.StepBeside.{line_here}
use Rattle.sheets.proofs.StepViews.{TracedStep, apart, View, refused-view, unread-view, short-view, passed-view, view, lines-count}

abbrev pub PlainEnd : Type 0
PlainEnd = RunEnd (State number_cells)

-- a traced run's end but for the lines
abbrev pub without_lines : RunEnd (TracedState number_cells) → PlainEnd
without_lines r = record { answer = r.answer; steps = r.steps; state = r.state.plain }

-- a state after so many lines
abbrev pub lined : ℕ → State number_cells → TracedState number_cells
lined k s = record { plain = s; lines = replicate k [] }

-- a run that stopped with another answer did not pause
stopped : {a : Answer} {k m : ℕ} {s t : State number_cells} → (a ≡ Paused → ⊥)
    → ◌≡◌ {A = PlainEnd} (record { answer = a; steps = k; state = s }) (paused_run m t) → ⊥
stopped n e = n (ap (λ (r : PlainEnd). r.answer) e)

-- one step less
earlier : (r : PlainEnd) {k : ℕ} {u : State number_cells} → after_step r ≡ paused_run (suc k) u → r ≡ paused_run k u
earlier r {k} {u} e =
    let n : suc r.steps ≡ suc k = ap (λ (r : PlainEnd). r.steps) e in
    let m : r.steps ≡ k = omega arith in
    λ i. record { answer = ap (λ (r : PlainEnd). r.answer) e i; steps = m i; state = ap (λ (r : PlainEnd). r.state) e i }

module _ (e : Environment) (sheet : ℕ) where
  abbrev pub traced_from : TracedState number_cells → TracedStep
  traced_from q = traced_step number_cells e sheet q

  -- the traced step after k steps of the plain run
  abbrev pub after : TracedState number_cells → ℕ → State number_cells → TracedStep
  after q k u = traced_from (lined (length q.lines + k) u)

  abbrev pub Neither : TracedStep → Type 0
  Neither x = (x ≡ unread → ⊥) × (x ≡ short → ⊥)

  abbrev pub NeitherIn : ℕ → TracedState number_cells → Type 0
  NeitherIn n q = (k : ℕ) → k < n → (u : State number_cells) → run number_cells e k q.plain ≡ paused_run k u → Neither (after q k u)

  pub data RunEnds (n : ℕ) (q : TracedState number_cells) : PlainEnd → Type 0 where
    as_plain : NeitherIn n q → RunEnds n q (run number_cells e n q.plain)
    at-unread : {k : ℕ} {u : State number_cells} → k < n → NeitherIn k q → run number_cells e k q.plain ≡ paused_run k u
        → after q k u ≡ unread
        → RunEnds n q (record { answer = Refused CellAbsent; steps = k; state = u })
    at-short : {k : ℕ} {u : State number_cells} → k < n → NeitherIn k q → run number_cells e k q.plain ≡ paused_run k u
        → after q k u ≡ short
        → RunEnds n q (record { answer = ShortBuffer; steps = k; state = u })

  -- before any step
  pub at-start : (q : TracedState number_cells) → after q 0 q.plain ≡ traced_from q
  at-start q = lines-count e sheet q.plain (replicate (length q.lines + 0) []) q.lines
      (length-replicate (length q.lines + 0) [] ∙ omega arith)

  no_step : (q : TracedState number_cells) {u : State number_cells} → run number_cells e 0 q.plain ≡ paused_run 0 u
      → after q 0 u ≡ traced_from q
  unfolding run
  no_step q h = ap (after q 0) (sym (ap (λ (r : PlainEnd). r.state) h)) ∙ at-start q

  -- after a step that is accepted
  neither-passed : (q : TracedState number_cells) {x : TracedStep} (n : TracedNext number_cells) → x ≡ passes n → Neither x
  neither-passed q n e = (λ h. apart (passes n) unread e h (λ z. omega arith), λ h. apart (passes n) short e h (λ z. omega arith))

  -- from the first step and the others
  neither-more : (n : ℕ) (q : TracedState number_cells) → Neither (traced_from q)
      → ((k : ℕ) → k < n → (u : State number_cells) → run number_cells e (suc k) q.plain ≡ paused_run (suc k) u
      → Neither (after q (suc k) u))
      → NeitherIn (suc n) q
  neither-more n q h g zero l u p = subst Neither (sym (no_step q p)) h
  neither-more n q h g (suc k) l u p = g k (omega arith) u p

  module _ (q : TracedState number_cells) (n : Next number_cells) (line : List ℕ)
      (x : traced_from q ≡ passes (record { next = n; line = line })) (y : step number_cells e q.plain ≡ pass n) where
    abbrev pub then : TracedState number_cells
    then = with_line number_cells q (record { next = n; line = line })

    pub plain_more : (k : ℕ) → run number_cells e (suc k) q.plain ≡ on_finish n.finish n.state.clk n.state (run number_cells e k)
    unfolding run
    plain_more k = ap (λ r. on_step number_cells q.plain r (run number_cells e k)) y

    neither-here : Neither (traced_from q)
    neither-here = neither-passed q (record { next = n; line = line }) x

    -- the step ends the run
    last : {a : Answer} (m : ℕ) → (a ≡ Paused → ⊥)
        → ((k : ℕ) → run number_cells e (suc k) q.plain ≡ record { answer = a; steps = 1; state = n.state })
        → RunEnds (suc m) q (record { answer = a; steps = 1; state = n.state })
    last m b p =
        subst (RunEnds (suc m) q) (p m)
        (as_plain (neither-more m q neither-here (λ k l u h. absurd (stopped b (sym (p k) ∙ h)))))

    -- the step goes on
    pub after_more : (k : ℕ) (u : State number_cells) → after then k u ≡ after q (suc k) u
    after_more k u =
        let h : length (q.lines ++ (line ∷ [])) ≡ suc (length q.lines) = length-append q.lines (line ∷ []) ∙ omega arith in
        let c : length (q.lines ++ (line ∷ [])) + k ≡ length q.lines + suc k = omega arith in
        ap (λ m. traced_from (lined m u)) c

    module _ (p : (k : ℕ) → run number_cells e (suc k) q.plain ≡ after_step (run number_cells e k n.state)) where
      neither-then : (m : ℕ) → NeitherIn m then → NeitherIn (suc m) q
      neither-then m h =
          neither-more m q neither-here
          (λ k l u r. subst Neither (after_more k u) (h k l u (earlier (run number_cells e k n.state) (sym (p k) ∙ r))))

      onward : (m : ℕ) {r : PlainEnd} → RunEnds m then r → RunEnds (suc m) q (after_step r)
      onward m (as_plain h) = subst (RunEnds (suc m) q) (p m) (as_plain (neither-then m h))
      onward m (at-unread {k} {u} l h r z) = at-unread {k = suc k} (omega arith) (neither-then k h) (p k ∙ ap after_step r)
          (sym (after_more k u) ∙ z)
      onward m (at-short {k} {u} l h r z) = at-short {k = suc k} (omega arith) (neither-then k h) (p k ∙ ap after_step r)
          (sym (after_more k u) ∙ z)

    by-clock : (m : ℕ) → RunEnds m then (without_lines (traced_run number_cells e sheet m then)) → (b : Bool)
        → ((k : ℕ) → run number_cells e (suc k) q.plain ≡ on_clock b n.state (run number_cells e k n.state))
        → RunEnds (suc m) q (without_lines (on_clock b then (traced_run number_cells e sheet m then)))
    by-clock m h true p = onward p m h
    by-clock m h false p = last m (λ z. let y : ◌≡◌ {A = ℕ} 0 1 = cc in omega arith) p

    by-finish : (m : ℕ) → RunEnds m then (without_lines (traced_run number_cells e sheet m then)) → (f : Finish)
        → ((k : ℕ) → run number_cells e (suc k) q.plain ≡ on_finish f n.state.clk n.state (run number_cells e k))
        → RunEnds (suc m) q (without_lines (on_finish f n.state.clk then (traced_run number_cells e sheet m)))
    by-finish m h goes_on p = by-clock m h (ltb n.state.clk clock_end) p
    by-finish m h ends p = last m (λ z. let y : ◌≡◌ {A = ℕ} 0 1 = cc in omega arith) p
    by-finish m h (calls vs) p = last m (λ z. let y : ◌≡◌ {A = ℕ} 0 1 = cc in omega arith) p
    by-finish m h (delegates vs) p = last m (λ z. let y : ◌≡◌ {A = ℕ} 0 1 = cc in omega arith) p

  nothing-before : (q : TracedState number_cells) → NeitherIn 0 q
  nothing-before q k l = absurd (omega arith)

  by-step : (n : ℕ) (q : TracedState number_cells)
      → ((q : TracedState number_cells) → RunEnds n q (without_lines (traced_run number_cells e sheet n q)))
      → (y : Result (Next number_cells)) (x : TracedStep) → View e sheet q y x → step number_cells e q.plain ≡ y → traced_from q ≡ x
      → RunEnds (suc n) q (without_lines (on_traced_step number_cells q x (traced_run number_cells e sheet n)))
  unfolding run
  by-step n q h _ _ (refused-view {f} m) d c =
      let p : (k : ℕ) → run number_cells e (suc k) q.plain ≡ stops_at (Refused f) q.plain =
      λ k. ap (λ r. on_step number_cells q.plain r (run number_cells e k)) d in
      subst (RunEnds (suc n) q) (p n)
      (as_plain
      (neither-more n q
      (λ z. apart _ unread c z (λ z. omega arith), λ z. apart _ short c z (λ z. omega arith))
      (λ k l u r. absurd (stopped (λ z. let y : ◌≡◌ {A = ℕ} 0 1 = cc in omega arith) (sym (p k) ∙ r)))))
  by-step n q h _ _ (unread-view m) d c = at-unread {k = 0} (omega arith) (nothing-before q) refl (at-start q ∙ c)
  by-step n q h _ _ (short-view m s) d c = at-short {k = 0} (omega arith) (nothing-before q) refl (at-start q ∙ c)
  by-step n q h _ _ (passed-view {n = m} b s) d c =
      by-finish q m _ c d n (h (with_line number_cells q (record { next = m; line = line_here number_cells e q.plain m }))) m.finish
      (plain_more q m _ c d)

  pub run_ends : (n : ℕ) (q : TracedState number_cells) → RunEnds n q (without_lines (traced_run number_cells e sheet n q))
  unfolding traced_run run
  run_ends zero q = as_plain (nothing-before q)
  run_ends (suc n) q = by-step n q (run_ends n) (step number_cells e q.plain) (traced_from q) (view e sheet q) refl refl

  -- a traced run that paused is the plain run
  paused-end : (n : ℕ) (q : TracedState number_cells) {r : PlainEnd} → RunEnds n q r → r.answer ≡ Paused
      → run number_cells e n q.plain ≡ r
  paused-end n q (as_plain h) a = refl
  paused-end n q (at-unread l h p x) a = absurd (let z : ◌≡◌ {A = ℕ} 0 1 = cc in omega arith)
  paused-end n q (at-short l h p x) a = absurd (let z : ◌≡◌ {A = ℕ} 0 1 = cc in omega arith)

  pub plain-paused : (n : ℕ) (q : TracedState number_cells) {u : TracedState number_cells} → traced_run number_cells e sheet n q ≡ paused_run n u
      → run number_cells e n q.plain ≡ paused_run n u.plain
  plain-paused n q p =
      paused-end n q (run_ends n q) (ap (λ (r : RunEnd (TracedState number_cells)). r.answer) p) ∙ ap without_lines p
