-- The lines of a traced run: one for each step, which is that of the step accepted there, and all of them fit the sheet.
use Prim.Native.Nat.{ℕ, zero, suc, ◌+◌, ◌*◌, ◌<◌, ◌≤◌}
use mathlib.Core.Path.{◌≡◌, refl, sym, ap, subst, ◌∙◌}
use mathlib.Core.Bool.{Bool, true, false}
use mathlib.Core.List.{List, [], ◌∷◌, ◌++◌, append_assoc, append-nil}
use native.Mathlib.Omega.{arith}
use lib.Dec.{ltb}
use lib.ListN.{length, get_or, length-append}
use borrow.Author.Tests.{ltb-false}
use Rattle.rules.specs.declared.Answer.{Answer}
use Rattle.rules.specs.Numbers.{clock_end}
use Rattle.rules.specs.Results.{Result, pass}
use Rattle.rules.specs.Cells.{number_cells}
use Rattle.rules.specs.Step.{Environment, State, Next, Finish, goes_on, ends, calls, delegates, RunEnd, after_step, on_clock, on_finish, step, run}
use Rattle.rules.proofs.EveryCall.RunEnds.{paused_run}
use Rattle.sheets.specs.Lines.{line_bytes, is_short}
use Rattle.sheets.specs.Traced.{passes, TracedState, with_line, on_traced_step, traced_run}
use Rattle.sheets.specs.StepBeside.{line_here}
use Rattle.sheets.proofs.StepViews.{TracedStep, View, refused-view, unread-view, short-view, passed-view, view}
use Rattle.sheets.proofs.RunsBeside.{after, traced_from, at-start, then, plain_more, after_more}

module _ (e : Environment) (sheet : ℕ) where
  -- line l is that of the step accepted after j steps
  pub record LineIn (q : TracedState number_cells) (j : ℕ) (l : List ℕ) : Type 0 where
    pub state : State number_cells
    pub paused : run number_cells e j q.plain ≡ paused_run j state
    pub next : Next number_cells
    pub accepted : after e sheet q j state ≡ passes (record { next = next; line = l })

  pub record RunLines (q : TracedState number_cells) (r : RunEnd (TracedState number_cells)) : Type 0 where
    pub lines : List (List ℕ)
    pub added : r.state.lines ≡ q.lines ++ lines
    pub count : length lines ≡ r.steps
    pub fits : line_bytes * length q.lines ≤ sheet → line_bytes * (length q.lines + r.steps) ≤ sheet
    pub each : (j : ℕ) → j < r.steps → LineIn q j (get_or lines j [])

  without : (q : TracedState number_cells) (a : Answer) → RunLines q (record { answer = a; steps = 0; state = q })
  without q a =
      record {
        lines = [];
        added = sym (append-nil q.lines);
        count = refl;
        fits = λ h. subst (λ n. line_bytes * n ≤ sheet) (omega arith) h;
        each = λ j l. absurd (omega arith);
      }

  module _ (q : TracedState number_cells) (n : Next number_cells) (line : List ℕ)
      (x : traced_from e sheet q ≡ passes (record { next = n; line = line })) (y : step number_cells e q.plain ≡ pass n)
      (short : is_short sheet (length q.lines) ≡ false) where
    abbrev left : TracedState number_cells
    left = then e sheet q n line x y

    -- one more
    enough : line_bytes * suc (length q.lines) ≤ sheet
    enough = ltb-false sheet (line_bytes * suc (length q.lines)) short

    first : LineIn q 0 line
    unfolding run
    first = record { state = q.plain; paused = refl; next = n; accepted = at-start e sheet q ∙ x }

    lines_left : length left.lines ≡ suc (length q.lines)
    lines_left = length-append q.lines (line ∷ []) ∙ omega arith

    last : (a : Answer) → RunLines q (record { answer = a; steps = 1; state = left })
    last a =
        record {
          lines = line ∷ [];
          added = refl;
          count = refl;
          fits = λ h. subst (λ n. line_bytes * n ≤ sheet) (omega arith) enough;
          each = one;
        }
      where
        one : (j : ℕ) → j < 1 → LineIn q j (get_or (line ∷ []) j [])
        one zero l = first
        one (suc j) l = absurd (omega arith)

    module _ (p : (k : ℕ) → run number_cells e (suc k) q.plain ≡ after_step (run number_cells e k n.state)) where
      later : (j : ℕ) {l : List ℕ} → LineIn left j l → LineIn q (suc j) l
      later j h =
          record {
            state = h.state;
            paused = p j ∙ ap after_step h.paused;
            next = h.next;
            accepted = sym (after_more e sheet q n line x y j h.state) ∙ h.accepted;
          }

      onward : {r : RunEnd (TracedState number_cells)} → RunLines left r → RunLines q (after_step r)
      onward {r} h =
          record {
            lines = line ∷ h.lines;
            added = h.added ∙ append_assoc q.lines (line ∷ []) h.lines;
            count = ap suc h.count;
            fits = λ _.
                subst (λ n. line_bytes * n ≤ sheet) (omega (arith, lines_left))
                (h.fits (subst (λ n. line_bytes * n ≤ sheet) (sym lines_left) enough));
            each = each;
          }
        where
          each : (j : ℕ) → j < suc r.steps → LineIn q j (get_or (line ∷ h.lines) j [])
          each zero l = first
          each (suc j) l = later j (h.each j (omega arith))

    by-clock : (m : ℕ) → RunLines left (traced_run number_cells e sheet m left) → (b : Bool)
        → ((k : ℕ) → run number_cells e (suc k) q.plain ≡ on_clock b n.state (run number_cells e k n.state))
        → RunLines q (on_clock b left (traced_run number_cells e sheet m left))
    by-clock m h true p = onward p h
    by-clock m h false p = last _

    by-finish : (m : ℕ) → RunLines left (traced_run number_cells e sheet m left) → (f : Finish)
        → ((k : ℕ) → run number_cells e (suc k) q.plain ≡ on_finish f n.state.clk n.state (run number_cells e k))
        → RunLines q (on_finish f n.state.clk left (traced_run number_cells e sheet m))
    by-finish m h goes_on p = by-clock m h (ltb n.state.clk clock_end) p
    by-finish m h ends p = last _
    by-finish m h (calls vs) p = last _
    by-finish m h (delegates vs) p = last _

  by-step : (m : ℕ) (q : TracedState number_cells) → ((q : TracedState number_cells) → RunLines q (traced_run number_cells e sheet m q))
      → (y : Result (Next number_cells)) (x : TracedStep) → View e sheet q y x → step number_cells e q.plain ≡ y → traced_from e sheet q ≡ x
      → RunLines q (on_traced_step number_cells q x (traced_run number_cells e sheet m))
  by-step m q h _ _ (refused-view b) d c = without q _
  by-step m q h _ _ (unread-view b) d c = without q _
  by-step m q h _ _ (short-view b s) d c = without q _
  by-step m q h _ _ (passed-view {n} b s) d c =
      by-finish q n _ c d s m (h (with_line number_cells q (record { next = n; line = line_here number_cells e q.plain n }))) n.finish
      (plain_more e sheet q n _ c d)

  pub run-lines : (m : ℕ) (q : TracedState number_cells) → RunLines q (traced_run number_cells e sheet m q)
  unfolding traced_run
  run-lines zero q = without q _
  run-lines (suc m) q = by-step m q (run-lines m) (step number_cells e q.plain) (traced_from e sheet q) (view e sheet q) refl refl
