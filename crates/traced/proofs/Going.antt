-- The loop: what is left of the run, from what the steps done left, is the whole run.
use Prim.Native.Nat.{ℕ, suc, ◌+◌, ◌*◌, ◌-◌, ◌≤◌, ◌<◌}
use mathlib.Core.Path.{◌≡◌, refl, sym, ap, subst, ◌∙◌}
use mathlib.Core.Bool.{Bool, true}
use mathlib.Core.List.{List, [], ◌++◌}
use native.Mathlib.Nat.{zero-add}
use native.Mathlib.Omega.{arith}
use lib.ListN.{length, length-append}
use Rattle.rules.specs.declared.Answer.TheVariants.{Paused}
use Rattle.rules.specs.declared.Instruction.{Instruction}
use Rattle.rules.specs.declared.Ran.{Ran}
use Rattle.rules.specs.declared.Refusal.TheVariants.{BadState}
use Rattle.rules.specs.Numbers.{choose}
use Rattle.rules.specs.Results.{pass}
use Rattle.rules.specs.Step.{overlay}
use Rattle.rules.specs.Answers.{meaning}
use Rattle.rules.specs.Entry.{Snapshot, plain_entry, state_of, snapshot_after}
use Rattle.rules.specs.Calls.{Called, refused_call}
use Rattle.rules.proofs.EveryCall.Restored.{restored}
use Rattle.rules.proofs.Laws.OverlayLaws.{length-overlay}
use Rattle.hexadecimal.specs.Writing.{overlay_at}
use Rattle.sheets.specs.Lines.{lines_text, line_bytes}
use Rattle.sheets.specs.Traced.{traced_run}
use Rattle.sheets.specs.TracedCalls.{TracedSnapshot, traced_call, traced_answered, traced_run_of}
use Rattle.sheets.specs.TracedEnds.{TracedEnd, end_of, one_more}
use Rattle.sheets.proofs.Continuing.{StepIs, step_goes_on, is_last, step_is}
use Rattle.sheet_lines.proofs.LineLaws.{lines-append, overlay-more}
use Rattle.traced.specs.Steps.{TracedStep}

-- after so many steps
abbrev pub more_steps : ℕ → TracedEnd → TracedEnd
more_steps k r = record { answer = r.answer; steps = k + r.steps; left = r.left; lines = r.lines }

whole_run : (r : TracedEnd) → r ≡ more_steps 0 r
whole_run r = λ i. record { answer = r.answer; steps = sym (zero-add r.steps) i; left = r.left; lines = r.lines }

-- one step further
one_further : (k : ℕ) (r : TracedEnd) → more_steps k (one_more r) ≡ more_steps (k + 1) r
one_further k r = let e : k + suc r.steps ≡ (k + 1) + r.steps = omega arith in λ i. record { answer = r.answer; steps = e i; left = r.left; lines = r.lines }

module _ (program : List Instruction) (budget : ℕ) (t : TracedSnapshot) where
  -- after some steps: the snapshot, the lines and the sheet
  pub record Going (s : Snapshot) (done at : ℕ) (sheet : List ℕ) : Type 0 where
    pub lines : List (List ℕ)
    pub count : length lines ≡ done
    pub place : at ≡ line_bytes * length lines
    pub bytes : length (lines_text lines) ≡ at
    pub fits : at ≤ length t.sheet
    pub written : sheet ≡ overlay (lines_text lines) t.sheet
    pub within : done ≤ budget
    pub enters : plain_entry s ≡ true
    pub registers : length s.machine.registers ≡ 10
    pub rest : end_of program (length t.sheet) budget t.plain [] ≡ more_steps done (end_of program (length t.sheet) (budget - done) s lines)

  -- what a call gives, by its end
  abbrev answers_as : TracedEnd → Called TracedSnapshot
  answers_as r = record { answer = meaning r.answer; steps = r.steps; left = record { plain = r.left; sheet = overlay (lines_text r.lines) t.sheet } }

  call-is : plain_entry t.plain ≡ true → traced_call (pass program) budget t ≡ answers_as (end_of program (length t.sheet) budget t.plain [])
  unfolding traced_call
  call-is h = ap (λ (b : Bool). choose b (traced_answered t (traced_run_of program budget t)) (refused_call BadState t)) h

  none_left : (s : Snapshot) (ls : List (List ℕ)) → end_of program (length t.sheet) 0 s ls ≡ record { answer = Paused; steps = 0; left = snapshot_after s (state_of s); lines = ls }
  unfolding traced_run
  none_left s ls = refl

  pub going-first : plain_entry t.plain ≡ true → length t.plain.machine.registers ≡ 10 → Going t.plain 0 0 t.sheet
  unfolding lines_text line_bytes
  going-first h ten =
      record {
        lines = [];
        count = refl;
        place = refl;
        bytes = refl;
        fits = omega arith;
        written = refl;
        within = omega arith;
        enters = h;
        registers = ten;
        rest = whole_run (end_of program (length t.sheet) budget t.plain []) ∙ ap (λ (n : ℕ). more_steps 0 (end_of program (length t.sheet) n t.plain [])) (omega arith);
      }

  module _ {s : Snapshot} {done at : ℕ} {sheet : List ℕ} (g : Going s done at sheet) where
    pub same_length : length sheet ≡ length t.sheet
    same_length = ap length g.written ∙ length-overlay (lines_text g.lines) t.sheet (omega (arith, g.bytes, g.fits))

    -- what one step more gives
    abbrev one : TracedEnd
    one = end_of program (length t.sheet) 1 s g.lines

    stepped : {r : Ran} {s' : Snapshot} {sheet' : List ℕ} → TracedStep (end_of program (length sheet) 1 s g.lines) g.lines at sheet r s' sheet'
        → TracedStep one g.lines at sheet r s' sheet'
    stepped {r} {s'} {sheet'} h = subst (λ (n : ℕ). TracedStep (end_of program n 1 s g.lines) g.lines at sheet r s' sheet') same_length h

    module _ (r : Ran) (s' : Snapshot) (sheet' : List ℕ) (h : TracedStep one g.lines at sheet r s' sheet') (more : done < budget) where
      -- the lines after the step, laid over the sheet
      over : sheet' ≡ overlay (lines_text (g.lines ++ h.added)) t.sheet
      over =
          h.written
          ∙ (λ i. overlay_at (g.written i) (sym g.bytes i) (lines_text h.added))
          ∙ overlay-more t.sheet (lines_text g.lines) (lines_text h.added)
          ∙ ap (λ (l : List ℕ). overlay l t.sheet) (sym (lines-append g.lines h.added))

      -- a step that goes on
      on : r.answer ≡ Paused → StepIs program (length t.sheet) s g.registers g.enters g.lines → Going s' (done + 1) (at + 257) sheet'
      unfolding line_bytes
      on p (is_last n w) = absurd (n (sym h.answer ∙ p))
      on p (step_goes_on q k) =
          let c : r.steps ≡ 1 = h.steps ∙ k.counted in
          let a : length h.added ≡ 1 = h.count ∙ c in
          let b : length (lines_text h.added) ≡ 257 = h.bytes ∙ ap (λ (n : ℕ). 257 * n) c in
          let l : length (g.lines ++ h.added) ≡ length g.lines + length h.added = length-append g.lines h.added in
          let m : length (lines_text (g.lines ++ h.added)) ≡ length (lines_text g.lines) + length (lines_text h.added) = ap length (lines-append g.lines h.added) ∙ length-append (lines_text g.lines) (lines_text h.added) in
          record {
            lines = g.lines ++ h.added;
            count = omega (arith, l, a, g.count);
            place = omega (arith, l, a, g.place);
            bytes = omega (arith, m, b, g.bytes);
            fits = omega (arith, b, h.fits, same_length);
            written = over;
            within = omega (arith, more);
            enters = ap plain_entry h.left ∙ k.enters;
            registers = ap (λ (x : Snapshot). length x.machine.registers) h.left ∙ k.registers;
            rest =
                g.rest
                ∙ ap (λ (n : ℕ). more_steps done (end_of program (length t.sheet) n s g.lines)) (omega (arith, more))
                ∙ ap (more_steps done) (k.rest (budget - (done + 1)))
                ∙ (λ i. one_further done (end_of program (length t.sheet) (budget - (done + 1)) (sym h.left i) (h.lines i)) i);
          }

      going_on : r.answer ≡ Paused → Going s' (done + 1) (at + 257) sheet'
      going_on p = on p (step_is program (length t.sheet) s g.registers g.enters g.lines)

      -- the last step
      last : (r.answer ≡ Paused → ⊥) → StepIs program (length t.sheet) s g.registers g.enters g.lines
          → end_of program (length t.sheet) budget t.plain [] ≡ more_steps done one
      last n (step_goes_on q k) = absurd (n (h.answer ∙ q))
      last n (is_last q w) =
          g.rest
          ∙ ap (λ (n : ℕ). more_steps done (end_of program (length t.sheet) n s g.lines)) (omega (arith, more))
          ∙ ap (more_steps done) (w (budget - (done + 1)))

      stops-here : plain_entry t.plain ≡ true → (r.answer ≡ Paused → ⊥)
          → record { answer = meaning r.answer; steps = done + r.steps; left = record { plain = s'; sheet = sheet' } } ≡ traced_call (pass program) budget t
      stops-here f n =
          let w = last n (step_is program (length t.sheet) s g.registers g.enters g.lines) in
          (λ i. record {
            answer = meaning (h.answer i);
            steps = done + h.steps i;
            left = record { plain = h.left i; sheet = (over ∙ ap (λ (l : List (List ℕ)). overlay (lines_text l) t.sheet) (sym h.lines)) i };
          })
          ∙ ap answers_as (sym w) ∙ sym (call-is f)

    -- of the step as the code gives it
    module _ {r : Ran} {s' : Snapshot} {sheet' : List ℕ} (given : TracedStep (end_of program (length sheet) 1 s g.lines) g.lines at sheet r s' sheet')
        (more : done < budget) where
      pub goes_on : r.answer ≡ Paused → Going s' (done + 1) (at + 257) sheet'
      goes_on = going_on r s' sheet' (stepped given) more

      pub ends : plain_entry t.plain ≡ true → (r.answer ≡ Paused → ⊥)
          → record { answer = meaning r.answer; steps = done + r.steps; left = record { plain = s'; sheet = sheet' } } ≡ traced_call (pass program) budget t
      ends = stops-here r s' sheet' (stepped given) more

    -- the budget is done
    pub stops-paused : plain_entry t.plain ≡ true → (done < budget → ⊥)
        → record { answer = meaning Paused; steps = budget; left = record { plain = s; sheet = sheet } } ≡ traced_call (pass program) budget t
    stops-paused f n =
        (λ i. record { answer = meaning Paused; steps = all_done i; left = record { plain = sym (restored s g.enters) i; sheet = g.written i } })
        ∙ ap answers_as (sym (g.rest ∙ ap (λ (n : ℕ). more_steps done (end_of program (length t.sheet) n s g.lines)) (omega (arith, n, g.within)) ∙ ap (more_steps done) (none_left s g.lines)))
        ∙ sym (call-is f)
      where
        all_done : budget ≡ done + 0
        all_done = omega (arith, n, g.within)
