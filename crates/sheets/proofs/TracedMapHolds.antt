-- The theorem: each traced call is the traced run over a plain map.
use Prim.Native.Nat.{ℕ, zero, suc, ◌-◌}
use mathlib.Core.Path.{◌≡◌, refl, sym, subst}
use mathlib.Core.Bool.{Bool, true, false, ◌&&◌}
use mathlib.Core.List.{List, [], ◌∷◌, ◌++◌}
use lib.Dec.{leb}
use lib.ListN.{length, get_or}
use Rattle.rules.specs.declared.Instruction.{Instruction}
use Rattle.rules.specs.declared.Held.{Held}
use Rattle.rules.specs.declared.Refusal.{Refusal}
use Rattle.rules.specs.declared.Refusal.TheVariants.{BadState, CellAbsent}
use Rattle.rules.specs.Numbers.{choose}
use Rattle.rules.specs.Results.{Result, refuse, pass, require}
use Rattle.rules.specs.Frames.{load_words}
use Rattle.rules.specs.Text.{load_text, load_budget_text}
use Rattle.rules.specs.Cells.{number_cells}
use Rattle.rules.specs.PlainMap.{PlainMap, number_map}
use Rattle.rules.specs.Opcodes.{class_of}
use Rattle.rules.specs.Operands.{fetch, operands}
use Rattle.rules.specs.Step.{Environment, State, Next, r9, content_value, step, RunEnd}
use Rattle.rules.specs.Answers.{meaning}
use Rattle.rules.specs.Relations.{Both, both-refused, passed, BothRan}
use Rattle.rules.specs.Entry.{plain_entry, environment}
use Rattle.rules.specs.Calls.{refused_call, job_budget, job_program}
use Rattle.rules.specs.MapAgreement.{with_map, SameMemory, SameNext}
use Rattle.rules.proofs.Laws.Relational.{both-finish}
use Rattle.rules.proofs.Soundness.EntrySoundness.{entry-sound}
use Rattle.rules.proofs.MapAgreement.PlainMapAgreement.{same-with, with-same, same_step}
use Rattle.sheets.specs.Lines.{is_short, line_words, present_of}
use Rattle.sheets.specs.Traced.{TracedResult, refuses, unread, short, passes, after, unread_where, short_where, is_refused, reads_further, op1_of, TracedState, TracedNext, traced_step, with_line, on_traced_step, traced_run}
use Rattle.sheets.specs.StepBeside.{test_of, words_of, meets_unread, line_here, beside_plain}
use Rattle.sheets.specs.TracedCalls.{TracedSnapshot, traced_state_of, traced_snapshot_after, traced_answered, traced_run_of, traced_call, traced_words, traced_text, traced_budget_text}
use Rattle.sheets.specs.TracedMap.{SameTracedState, TracedOnMap, refused-program, unfit-state, runs, TracedMapCalls}
use Rattle.sheets.proofs.Stepping.{traced-beside}

-- The two steps side by side

data BothOnMap : TracedResult (TracedNext number_cells) → TracedResult (TracedNext number_map) → Type 0 where
  refused-both : {f : Refusal} → BothOnMap (refuses f) (refuses f)
  unread-both : BothOnMap unread unread
  short-both : BothOnMap short short
  passed-both : {n : TracedNext number_cells} {m : TracedNext number_map} → SameNext n.next m.next → n.line ≡ m.line
      → BothOnMap (passes n) (passes m)

module _ (e : Environment) (s : State number_cells) (m : PlainMap Held) (h : SameMemory s.cells m) where
  same_meets : meets_unread number_cells e s ≡ meets_unread number_map e (with_map s m)
  same_meets =
      λ j.
      test_of (fetch e.program s.pc) λ i.
      test_of (operands e.psp s.registers (class_of i.opcode) i) λ o.
      reads_further (class_of i.opcode)
      && is_refused (require (leb 2 (r9 number_cells s)) CellAbsent (content_value number_cells (h.same (r9 number_cells s - 2) j)))

  same_line : {n : Next number_cells} {k : Next number_map} → SameNext n k → line_here number_cells e s n ≡ line_here number_map e (with_map s m) k
  same_line q =
      λ j.
      words_of (fetch e.program s.pc) λ i.
      words_of (operands e.psp s.registers (class_of i.opcode) i) λ o.
      line_words s.clk s.pc s.registers (present_of (class_of i.opcode)) o.op0 (op1_of number_cells e (class_of i.opcode) i s o)
      (get_or (q.state.registers j) o.dst 0)

  beside_same : (sheet : ℕ) (l : List (List ℕ))
      → BothOnMap (beside_plain number_cells e sheet (record { plain = s; lines = l }))
      (beside_plain number_map e sheet (record { plain = with_map s m; lines = l }))
  unfolding unread_where after short_where
  beside_same sheet l =
      subst (λ b. BothOnMap (beside_plain number_cells e sheet (record { plain = s; lines = l })) (on_map b)) same_meets
      (go (meets_unread number_cells e s) (is_short sheet (length l)) (same_step e (same-with h)))
    where
      on_map : Bool → TracedResult (TracedNext number_map)
      on_map b =
          unread_where b
          (after (step number_map e (with_map s m)) λ n.
          short_where (is_short sheet (length l)) (passes (record { next = n; line = line_here number_map e (with_map s m) n })))

      go : (b c : Bool) {x : Result (Next number_cells)} {y : Result (Next number_map)} → Both SameNext x y
          → BothOnMap
          (unread_where b (after x λ n. short_where c (passes (record { next = n; line = line_here number_cells e s n }))))
          (unread_where b (after y λ n. short_where c (passes (record { next = n; line = line_here number_map e (with_map s m) n }))))
      go true c r = unread-both
      go false c both-refused = refused-both
      go false true (passed q) = short-both
      go false false (passed q) = passed-both q (same_line q)

module _ (e : Environment) (sheet : ℕ) where
  same-traced-step : {q : TracedState number_cells} {r : TracedState number_map} → SameTracedState q r
      → BothOnMap (traced_step number_cells e sheet q) (traced_step number_map e sheet r)
  same-traced-step {q} {r} h =
      subst (λ x. BothOnMap x (traced_step number_map e sheet r)) (sym (traced-beside number_cells e sheet q))
      (subst (BothOnMap (beside_plain number_cells e sheet q)) (sym (traced-beside number_map e sheet r))
      (subst (λ r. BothOnMap (beside_plain number_cells e sheet q) (beside_plain number_map e sheet r))
      (λ i. record { plain = with-same h.plain i; lines = h.lines i })
      (beside_same e q.plain r.plain.cells h.plain.cells sheet q.lines)))

  same-on-step : {q : TracedState number_cells} {r : TracedState number_map} {x : TracedResult (TracedNext number_cells)} {y : TracedResult
      (TracedNext number_map)}
      (k : TracedState number_cells → RunEnd (TracedState number_cells)) (l : TracedState number_map → RunEnd (TracedState number_map))
      → SameTracedState q r → BothOnMap x y
      → ((q : TracedState number_cells) (r : TracedState number_map) → SameTracedState q r → BothRan SameTracedState (k q) (l r))
      → BothRan SameTracedState (on_traced_step number_cells q x k) (on_traced_step number_map r y l)
  same-on-step k l h refused-both g = record { answer = refl; steps = refl; state = h }
  same-on-step k l h unread-both g = record { answer = refl; steps = refl; state = h }
  same-on-step k l h short-both g = record { answer = refl; steps = refl; state = h }
  same-on-step {q} {r} k l h (passed-both {n} {m} d z) g =
      let w : SameTracedState (with_line number_cells q n) (with_line number_map r m) =
      record { plain = d.state; lines = λ i. h.lines i ++ (z i ∷ []) }
      in
      both-finish SameTracedState _ _ k l d.finish d.state.clk w (g _ _ w)

  same-traced-run : (budget : ℕ) {q : TracedState number_cells} {r : TracedState number_map} → SameTracedState q r
      → BothRan SameTracedState (traced_run number_cells e sheet budget q) (traced_run number_map e sheet budget r)
  unfolding traced_run
  same-traced-run zero h = record { answer = refl; steps = refl; state = h }
  same-traced-run (suc budget) h = same-on-step _ _ h (same-traced-step h) (λ q r w. same-traced-run budget w)

-- Calls

entered : (program : List Instruction) (budget : ℕ) (t : TracedSnapshot) → length t.plain.machine.registers ≡ 10 → (b : Bool)
    → plain_entry t.plain ≡ b
    → TracedOnMap (pass program) budget t (choose b (traced_answered t (traced_run_of program budget t)) (refused_call BadState t))
entered program budget t ten false e = unfit-state e
entered program budget t ten true e =
    let c = (entry-sound program t.plain ten e).cells.rising in
    let h =
    same-traced-run (environment program t.plain) (length t.sheet) budget {q = traced_state_of t}
    (record { plain = same-with (record { rising = c; same = λ a. refl; size = refl }); lines = refl }) in
    subst (TracedOnMap (pass program) budget t)
    (λ i. record {
      answer = meaning (sym h.answer i);
      steps = sym h.steps i;
      left = traced_snapshot_after t
          (traced_run_of program budget t).state;
    })
    (runs e (traced_run_of program budget t).state h.state)

on-map : (program : Result (List Instruction)) (budget : ℕ) (t : TracedSnapshot) → length t.plain.machine.registers ≡ 10
    → TracedOnMap program budget t (traced_call program budget t)
unfolding traced_call
on-map (refuse f) budget t ten = refused-program
on-map (pass program) budget t ten = entered program budget t ten (plain_entry t.plain) refl

pub traced-map-calls : TracedMapCalls
unfolding traced_words traced_text traced_budget_text
traced-map-calls =
    record {
      of_words = λ words. on-map (load_words words);
      of_text = λ text. on-map (load_text text);
      of_budget_text = λ text. on-map (job_program (load_budget_text text)) (job_budget (load_budget_text text));
      of_budget_text_program = λ text. on-map (job_program (load_budget_text text));
    }
