-- Every guarded call that passes entry, by the rules: of any program as loaded; of bare words, text, text with a budget line.
use Prim.Native.Nat.{ℕ}
use mathlib.Core.Path.{◌≡◌, refl, sym, ap, subst, ◌∙◌}
use mathlib.Core.Bool.{true, false}
use mathlib.Core.List.{List}
use lib.ListN.{length}
use Rattle.rules.specs.declared.Instruction.{Instruction}
use Rattle.rules.specs.declared.Refusal.{Refusal}
use Rattle.rules.specs.declared.Refusal.TheVariants.{BadState}
use Rattle.rules.specs.Numbers.{choose}
use Rattle.rules.specs.Results.{Result, refuse, pass}
use Rattle.rules.specs.Frames.{load_words}
use Rattle.rules.specs.Text.{load_text, load_budget_text}
use Rattle.rules.specs.Cells.{number_cells, mark_cells}
use Rattle.rules.specs.Step.{Environment, State, RunEnd}
use Rattle.rules.specs.Guarded.{GuardedState}
use Rattle.rules.specs.Answers.{Meaning}
use Rattle.rules.specs.Entry.{GuardedSnapshot, guarded_entry, environment, guarded_state_of, snapshot_after, guarded_snapshot_after}
use Rattle.rules.specs.Calls.{Called, refused_call, guarded_run_of, guarded_answered, guarded_call, job_budget, job_program, guarded_words, guarded_text, guarded_budget_text}
use Rattle.rules.specs.LoadedRegisters.{AllInRange, LoadedInRange}
use Rattle.rules.specs.MarkRules.{Place, Marking, marking_of, snapshot_marks}
use Rattle.rules.specs.GuardedRuns.{CallsByRules, RunFrom, Gives, CallByRules, GuardedRuns}
use Rattle.rules.proofs.Laws.DecodedRegisters.{load_words-in-range, load_text-in-range, load_budget_text-in-range}
use Rattle.rules.proofs.Soundness.EntrySoundness.{guarded-entry-sound}
use Rattle.rules.proofs.Soundness.GuardedSoundness.{guarded-run-sound}
use Rattle.rules.proofs.Resumption.Resuming.{guarded-resumable}
use Rattle.rules.proofs.Resumption.CallSplits.{guarded-passes}
use Rattle.rules.proofs.MarksAndSinks.RunsByRules.{run-by-rules, rules-run}

module _ (program : List Instruction) (in_range : AllInRange program) (budget : ℕ) (g : GuardedSnapshot) (ten : length g.plain.machine.registers ≡ 10) (enters : guarded_entry g ≡ true) where
  abbrev there : Environment
  there = environment program g.plain

  abbrev ran : RunEnd (GuardedState number_cells mark_cells)
  ran = guarded_run_of program budget g

  abbrev call : Called GuardedSnapshot
  call = guarded_call (pass program) budget g

  is-run : call ≡ guarded_answered g ran
  is-run = guarded-passes program g budget enters

  -- the marks of what is left are those of the state that the run leaves
  marks-left : (x : Place) → snapshot_marks (guarded_snapshot_after g ran.state) x ≡ marking_of ran.state.marks x
  marks-left x =
      ap (λ (q : GuardedState number_cells mark_cells). marking_of q.marks x)
      (guarded-resumable program g ran.state enters (guarded-run-sound there budget (guarded_state_of g) (guarded-entry-sound program g ten enters))).state

  call-gives : (m : Meaning) (k : ℕ) (s : State number_cells) (t : Marking) → RunFrom program budget g m k s t → Gives g call m k s t
  call-gives m k s t h =
      let w = rules-run there in_range h (guarded_state_of g).marks refl refl in
      record {
        answer = ap (λ (c : Called GuardedSnapshot). c.answer) is-run ∙ w.answer;
        steps = ap (λ (c : Called GuardedSnapshot). c.steps) is-run ∙ w.steps;
        plain = ap (λ (c : Called GuardedSnapshot). c.left.plain) is-run ∙ ap (snapshot_after g.plain) w.plain;
        marks = λ x. ap (λ (c : Called GuardedSnapshot). snapshot_marks c.left x) is-run ∙ (marks-left x ∙ w.marks x);
      }

  call-by-rules : CallByRules program budget g call
  call-by-rules =
      record {
        state = ran.state.plain;
        marks = marking_of ran.state.marks;
        run =
            subst (λ (c : Called GuardedSnapshot). RunFrom program budget g c.answer c.steps ran.state.plain (marking_of ran.state.marks))
            (sym is-run)
            (run-by-rules there in_range budget (guarded_state_of g) refl);
        gives = call-gives;
      }

-- Of any program as loaded

unloaded : (program : Result (List Instruction)) (budget : ℕ) (g : GuardedSnapshot) {f : Refusal} → program ≡ refuse f
    → guarded_call program budget g ≡ refused_call f g
unfolding guarded_call
unloaded program budget g h = ap (λ x. guarded_call x budget g) h

pub unfit : (program : Result (List Instruction)) (budget : ℕ) (g : GuardedSnapshot) → guarded_entry g ≡ false → {instructions : List Instruction}
    → program ≡ pass instructions → guarded_call program budget g ≡ refused_call BadState g
unfolding guarded_call
unfit program budget g t {instructions} h =
    ap (λ x. guarded_call x budget g) h ∙ ap (λ b. choose b (guarded_answered g (guarded_run_of instructions budget g)) (refused_call BadState g)) t

pub guarded-runs : (program : Result (List Instruction)) → LoadedInRange program → (budget : ℕ) → GuardedRuns program budget (guarded_call program budget)
guarded-runs program l budget =
    record {
      unloaded = unloaded program budget;
      unfit = unfit program budget;
      by_rules = λ g ten enters {instructions} h.
          subst (λ x. CallByRules instructions budget g (guarded_call x budget g)) (sym h)
          (call-by-rules instructions (subst LoadedInRange h l) budget g ten enters);
    }

-- The public guarded calls
pub calls-by-rules : CallsByRules
unfolding guarded_words guarded_text guarded_budget_text
calls-by-rules =
    record {
      of_words = λ words. guarded-runs (load_words words) (load_words-in-range words);
      of_text = λ text. guarded-runs (load_text text) (load_text-in-range text);
      of_budget_text = λ text. guarded-runs (job_program (load_budget_text text)) (load_budget_text-in-range text) (job_budget (load_budget_text text));
      of_budget_text_program = λ text. guarded-runs (job_program (load_budget_text text)) (load_budget_text-in-range text);
    }
