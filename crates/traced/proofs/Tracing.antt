-- One traced step beside the plain one: refused by the further read, by a short sheet, as the plain step is, or with its line.
use Prim.Native.Nat.{ℕ}
use mathlib.Core.Path.{◌≡◌, refl, sym, ap, ◌∙◌}
use mathlib.Core.Bool.{Bool, true, false}
use mathlib.Core.List.{List, [], ◌∷◌, ◌++◌}
use native.Mathlib.Omega.{arith}
use lib.Dec.{ltb, eqb}
use lib.ListN.{length}
use Rattle.rules.specs.declared.Answer.{Answer}
use Rattle.rules.specs.declared.Answer.TheVariants.{Paused, Refused, ShortBuffer}
use Rattle.rules.specs.declared.Instruction.{Instruction}
use Rattle.rules.specs.declared.Refusal.TheVariants.{CellAbsent}
use Rattle.rules.specs.Numbers.{choose, clock_end}
use Rattle.rules.specs.Results.{Result, refuse, pass}
use Rattle.rules.specs.Cells.{number_cells}
use Rattle.rules.specs.Step.{Environment, State, Next, Finish, goes_on, ends, calls, delegates, RunEnd, stops_at, on_clock, on_finish, step, on_step, run}
use Rattle.rules.specs.Entry.{Snapshot, environment, state_of, snapshot_after}
use Rattle.rules.specs.Calls.{plain_run_of}
use Rattle.sheets.specs.Lines.{is_short}
use Rattle.sheets.specs.Traced.{TracedResult, passes, after, unread_where, short_where, TracedState, TracedNext, on_traced_step, traced_run}
use Rattle.sheets.specs.StepBeside.{meets_unread, line_here, beside_plain}
use Rattle.sheets.specs.TracedEnds.{TracedEnd, end_at, end_of}
use Rattle.sheets.proofs.Stepping.{traced-beside}
use Rattle.traced.specs.Steps.{short_answer}

-- what follows an accepted step, in the plain run and in the traced run
module _ (s : Snapshot) (lines : List (List ℕ)) where
  abbrev plain_pauses : State number_cells → RunEnd (State number_cells)
  plain_pauses t = stops_at Paused t

  abbrev traced_pauses : TracedState number_cells → RunEnd (TracedState number_cells)
  traced_pauses t = stops_at Paused t

  -- as the plain run ends, with these lines
  abbrev pub ends_with : RunEnd (State number_cells) → TracedEnd
  ends_with r = record { answer = r.answer; steps = r.steps; left = snapshot_after s r.state; lines = lines }

  clock-alike : (b : Bool) (t : State number_cells)
      → end_at s (on_clock b (record { plain = t; lines = lines }) (traced_pauses (record { plain = t; lines = lines }))) ≡ ends_with (on_clock b t (plain_pauses t))
  clock-alike true t = refl
  clock-alike false t = refl

  finish-alike : (f : Finish) (clk : ℕ) (t : State number_cells)
      → end_at s (on_finish f clk (record { plain = t; lines = lines }) traced_pauses) ≡ ends_with (on_finish f clk t plain_pauses)
  finish-alike goes_on clk t = clock-alike (ltb clk clock_end) t
  finish-alike ends clk t = refl
  finish-alike (calls vs) clk t = refl
  finish-alike (delegates vs) clk t = refl

-- an accepted step is counted, and its state stays
module _ (t : State number_cells) where
  pub record Counted (r : RunEnd (State number_cells)) : Type 0 where
    pub one : r.steps ≡ 1
    pub state : r.state ≡ t

  clock-counts : (b : Bool) → Counted (on_clock b t (stops_at Paused t))
  clock-counts true = record { one = refl; state = refl }
  clock-counts false = record { one = refl; state = refl }

  pub finish-counts : (f : Finish) (clk : ℕ) → Counted (on_finish f clk t (stops_at Paused))
  finish-counts goes_on clk = clock-counts (ltb clk clock_end)
  finish-counts ends clk = record { one = refl; state = refl }
  finish-counts (calls vs) clk = record { one = refl; state = refl }
  finish-counts (delegates vs) clk = record { one = refl; state = refl }

module _ (program : List Instruction) (sheet : ℕ) (s : Snapshot) (ls : List (List ℕ)) where
  abbrev e : Environment
  e = environment program s

  abbrev t : State number_cells
  t = state_of s

  abbrev q : TracedState number_cells
  q = record { plain = t; lines = ls }

  abbrev plain_of : Result (Next number_cells) → RunEnd (State number_cells)
  plain_of x = on_step number_cells t x (stops_at Paused)

  abbrev traced_of : TracedResult (TracedNext number_cells) → TracedEnd
  traced_of y = end_at s (on_traced_step number_cells q y (stops_at Paused))

  plain-is : plain_run_of program 1 s ≡ plain_of (step number_cells e t)
  unfolding run
  plain-is = refl

  traced-is : end_of program sheet 1 s ls ≡ traced_of (beside_plain number_cells e sheet q)
  unfolding traced_run
  traced-is = ap (λ (y : TracedResult (TracedNext number_cells)). end_at s (on_traced_step number_cells q y (traced_run number_cells e sheet 0))) (traced-beside number_cells e sheet q)

  -- a counted step is accepted
  on-accepted : (x : Result (Next number_cells)) → step number_cells e t ≡ x → ((plain_of x).steps ≡ 0 → ⊥) → (n : Next number_cells) × (step number_cells e t ≡ pass n)
  on-accepted (refuse f) h n = absurd (n refl)
  on-accepted (pass m) h n = (m, h)

  pub is-accepted : ((plain_run_of program 1 s).steps ≡ 0 → ⊥) → (n : Next number_cells) × (step number_cells e t ≡ pass n)
  is-accepted h = on-accepted (step number_cells e t) refl (λ z. h (ap (λ r. r.steps) plain-is ∙ z))

  -- without a step
  abbrev pub refused_with : Answer → TracedEnd
  refused_with a = record { answer = a; steps = 0; left = snapshot_after s t; lines = ls }

  pub at-unread : meets_unread number_cells e t ≡ true → end_of program sheet 1 s ls ≡ refused_with (Refused CellAbsent)
  unfolding unread_where
  at-unread u = traced-is ∙ rw u refl

  module _ (u : meets_unread number_cells e t ≡ false) where
    abbrev lined : Result (Next number_cells) → TracedResult (TracedNext number_cells)
    lined x = after x λ n. short_where (is_short sheet (length ls)) (passes (record { next = n; line = line_here number_cells e t n }))

    not-unread : end_of program sheet 1 s ls ≡ traced_of (lined (step number_cells e t))
    unfolding unread_where
    not-unread = traced-is ∙ rw u refl

    -- the sheet is too short
    on-short : is_short sheet (length ls) ≡ true → (x : Result (Next number_cells))
        → traced_of (lined x) ≡ refused_with (choose (eqb (plain_of x).steps 0) (plain_of x).answer ShortBuffer)
    unfolding after short_where
    on-short h (refuse f) = refl
    on-short h (pass n) = rw (h, (finish-counts n.state n.finish n.state.clk).one) refl

    pub at-short : is_short sheet (length ls) ≡ true → end_of program sheet 1 s ls ≡ refused_with (short_answer program s)
    at-short h = not-unread ∙ on-short h (step number_cells e t) ∙ ap (λ r. refused_with (choose (eqb r.steps 0) r.answer ShortBuffer)) (sym plain-is)

    module _ (l : is_short sheet (length ls) ≡ false) where
      -- the step is refused
      on-refused : (x : Result (Next number_cells)) → (plain_of x).steps ≡ 0 → traced_of (lined x) ≡ ends_with s ls (plain_of x)
      unfolding after
      on-refused (refuse f) z = refl
      on-refused (pass n) z = absurd (omega (arith, z, (finish-counts n.state n.finish n.state.clk).one))

      pub at-refused : (plain_run_of program 1 s).steps ≡ 0 → end_of program sheet 1 s ls ≡ ends_with s ls (plain_run_of program 1 s)
      at-refused z = not-unread ∙ on-refused (step number_cells e t) (ap (λ r. r.steps) (sym plain-is) ∙ z) ∙ ap (ends_with s ls) (sym plain-is)

      -- it is accepted
      pub record Lined : Type 0 where
        pub next : Next number_cells
        pub accepted : step number_cells e t ≡ pass next
        pub counted : (plain_run_of program 1 s).steps ≡ 1
        pub state : (plain_run_of program 1 s).state ≡ next.state
        pub end : end_of program sheet 1 s ls ≡ ends_with s (ls ++ (line_here number_cells e t next ∷ [])) (plain_run_of program 1 s)

      on_line : (x : Result (Next number_cells)) → step number_cells e t ≡ x → ((plain_of x).steps ≡ 0 → ⊥) → Lined
      unfolding after short_where
      on_line (refuse f) h n = absurd (n refl)
      on_line (pass n) h c =
          let p : plain_run_of program 1 s ≡ plain_of (pass n) = plain-is ∙ ap plain_of h in
          let k = finish-counts n.state n.finish n.state.clk in
          record {
            next = n;
            accepted = h;
            counted = ap (λ r. r.steps) p ∙ k.one;
            state = ap (λ r. r.state) p ∙ k.state;
            end =
                not-unread ∙ ap (λ x. traced_of (lined x)) h ∙ rw l (finish-alike s (ls ++ (line_here number_cells e t n ∷ [])) n.finish n.state.clk n.state)
                ∙ ap (ends_with s (ls ++ (line_here number_cells e t n ∷ []))) (sym p);
          }

      pub at-line : ((plain_run_of program 1 s).steps ≡ 0 → ⊥) → Lined
      at-line h = on_line (step number_cells e t) refl (λ z. h (ap (λ r. r.steps) plain-is ∙ z))
