-- Demand 3, proved, for each guarded call: bare words, text, text with a budget line.
use Prim.Native.Nat.{ℕ, ◌<◌}
use mathlib.Core.Path.{◌≡◌, refl, sym, ap, subst, ◌∙◌}
use mathlib.Core.Bool.{Bool, true, false}
use mathlib.Core.List.{List, []}
use native.Mathlib.Omega.{arith}
use Rattle.rules.specs.declared.Instruction.{Instruction}
use Rattle.rules.specs.declared.Refusal.{Refusal}
use Rattle.rules.specs.declared.Refusal.TheVariants.{BadState}
use Rattle.rules.specs.declared.Answer.TheVariants.{MarkedSink}
use Rattle.rules.specs.Numbers.{choose}
use Rattle.rules.specs.Results.{Result, refuse, pass}
use Rattle.rules.specs.Frames.{load_words}
use Rattle.rules.specs.Text.{load_text, load_budget_text}
use Rattle.rules.specs.Cells.{zipped, number_cells, mark_cells}
use Rattle.rules.specs.Step.{Environment, State, RunEnd}
use Rattle.rules.specs.Guarded.{GuardedState, guarded_run}
use Rattle.rules.specs.Answers.{Meaning, refusal, meaning}
use Rattle.rules.specs.Entry.{GuardedSnapshot, low_bits, all, plain_entry, marks_entry, guarded_entry, environment, guarded_state_of, snapshot_after, guarded_snapshot_after}
use Rattle.rules.specs.Calls.{Called, refused_call, paused_after, plain_run_of, guarded_run_of, plain_answered, guarded_answered, plain_call, guarded_call, job_budget, job_program, plain_words, plain_text, guarded_words, guarded_text, guarded_budget_text}
use Rattle.rules.specs.Relations.{BothRan}
use Rattle.rules.specs.LoadedRegisters.{LoadedInRange}
use Rattle.rules.specs.MarkRules.{Marking}
use Rattle.rules.specs.SinkRules.{ReachesSink, Comes}
use Rattle.rules.specs.GuardedRuns.{RunByRules, paused, refused, stopped, ended, called, delegated, clock}
use Rattle.rules.specs.NonInterference.{MarkedBelow, Alike, SameCalls, MeetsSink, SinkAfter, without_marks, Reaches, reaches, Unmarked, NonInterference}
use Rattle.rules.proofs.Laws.BoolLaws.{and-with-true, and-with-false}
use Rattle.rules.proofs.Laws.AnswerLaws.{paused-meaning, sink-meaning, sink-answer, refusal-not-sink}
use Rattle.rules.proofs.Laws.EntryLaws.{all-at}
use Rattle.rules.proofs.Laws.DecodedRegisters.{load_words-in-range, load_text-in-range, load_budget_text-in-range}
use Rattle.rules.proofs.NonInterference.AlikeRuns.{GuardedRelated, run-agrees}
use Rattle.rules.proofs.NonInterference.AlikeSnapshots.{close, guarded_entry-same, states-related, snapshots-left}
use Rattle.rules.proofs.NonInterference.GuardedBesidePlain.{run-beside}
use Rattle.rules.proofs.MarksAndSinks.RunsByRules.{run-by-rules, rules-run}
use Rattle.rules.proofs.MarksAndSinks.CallsByRules.{unfit}
use Rattle.rules.proofs.Resumption.CallSplits.{guarded-passes}
use Rattle.rules.proofs.NonInterference.CleanRuns.{clean-reaches, clean-start}

-- Two alike calls

same-environment : (program : List Instruction) (g h : GuardedSnapshot) → Alike g h → environment program g.plain ≡ environment program h.plain
same-environment program g h al = λ j.
    record {
      program = program;
      psp = al.psp j;
      storage = al.storage j;
      cell_capacity = al.address_length j;
      tape_capacity = al.tape_length j;
      output_capacity = al.output_length j;
    }

same-marks : (g h : GuardedSnapshot) → Alike g h → (guarded_state_of g).marks ≡ (guarded_state_of h).marks
same-marks g h al = λ j. record { registers = low_bits 10 (al.register_marks j); cells = zipped (al.addresses j) (al.marks j) }

answers-same : (g h : GuardedSnapshot) → Alike g h → (r u : RunEnd (GuardedState number_cells mark_cells)) → BothRan GuardedRelated r u
    → SameCalls (guarded_answered g r) (guarded_answered h u)
answers-same g h al r u w =
    record {
      answer = ap meaning w.answer;
      steps = w.steps;
      left =
          subst (λ t. Alike (guarded_snapshot_after g r.state) (guarded_snapshot_after h (record { plain = u.state.plain; marks = t }))) w.state.marks
          (snapshots-left g h al r.state.marks r.state.plain u.state.plain w.state.plain);
    }

module _ (program : List Instruction) (budget : ℕ) (g h : GuardedSnapshot) (al : Alike g h) (b : MarkedBelow g) (c : MarkedBelow h) where
  runs_same : guarded_entry g ≡ true → BothRan GuardedRelated (guarded_run_of program budget g) (guarded_run_of program budget h)
  runs_same t =
      subst (λ e. BothRan GuardedRelated (guarded_run_of program budget g) (guarded_run number_cells mark_cells e budget (guarded_state_of h))) (same-environment program g h al)
      (run-agrees (environment program g.plain) budget (guarded_state_of g) (guarded_state_of h)
      (record { marks = same-marks g h al; plain = states-related g h (close al b c) t }))

  by-entry : (x : Bool) → guarded_entry g ≡ x
      → SameCalls
      (choose x (guarded_answered g (guarded_run_of program budget g)) (refused_call BadState g))
      (choose x (guarded_answered h (guarded_run_of program budget h)) (refused_call BadState h))
  by-entry true t = answers-same g h al _ _ (runs_same t)
  by-entry false t = record { answer = refl; steps = refl; left = al }

calls_same : (program : Result (List Instruction)) (budget : ℕ) (g h : GuardedSnapshot) → Alike g h → MarkedBelow g → MarkedBelow h
    → SameCalls (guarded_call program budget g) (guarded_call program budget h)
unfolding guarded_call
calls_same (refuse f) budget g h al b c = record { answer = refl; steps = refl; left = al }
calls_same (pass program) budget g h al b c =
    subst (λ x. SameCalls (guarded_call (pass program) budget g) (choose x (guarded_answered h (guarded_run_of program budget h)) (refused_call BadState h)))
    (guarded_entry-same g h (close al b c) b c)
    (by-entry program budget g h al b c (guarded_entry g) refl)

-- A call that passes entry is its run

entry-split : (g : GuardedSnapshot) → marks_entry g ≡ true → guarded_entry g ≡ plain_entry g.plain
unfolding guarded_entry all
entry-split g t = rw t (and-with-true (plain_entry g.plain))

entry-plain : (g : GuardedSnapshot) → guarded_entry g ≡ true → plain_entry g.plain ≡ true
unfolding guarded_entry
entry-plain g t = all-at _ t 0

entry-unfit : (g : GuardedSnapshot) → marks_entry g ≡ false → guarded_entry g ≡ false
unfolding guarded_entry all
entry-unfit g t = rw t (and-with-false (plain_entry g.plain))

module _ (program : List Instruction) (budget : ℕ) (g : GuardedSnapshot) where
  plain-run : (k : ℕ) → guarded_entry g ≡ true → plain_call (pass program) k g.plain ≡ plain_answered g.plain (plain_run_of program k g.plain)
  unfolding plain_call
  plain-run k t = ap (λ b. choose b (plain_answered g.plain (plain_run_of program k g.plain)) (refused_call BadState g.plain)) (entry-plain g t)

  sink-enters : MeetsSink (guarded_call (pass program) budget g) → guarded_entry g ≡ true
  unfolding guarded_call
  sink-enters a = go (guarded_entry g) a
    where
      go : (b : Bool) → MeetsSink (choose b (guarded_answered g (guarded_run_of program budget g)) (refused_call BadState g)) → b ≡ true
      go true h = refl
      go false h = absurd (refusal-not-sink BadState h)

  run-sinks : MeetsSink (guarded_call (pass program) budget g) → (guarded_run_of program budget g).answer ≡ MarkedSink
  run-sinks a = sink-answer _ (sym (ap (λ (c : Called GuardedSnapshot). c.answer) (guarded-passes program g budget (sink-enters a))) ∙ a)

refused-no-sink : (f : Refusal) (budget : ℕ) (g : GuardedSnapshot) → MeetsSink (guarded_call (refuse f) budget g) → ⊥
unfolding guarded_call
refused-no-sink f budget g a = refusal-not-sink f a

-- Beside the plain call

transparent : (program : Result (List Instruction)) (budget : ℕ) (g : GuardedSnapshot) → marks_entry g ≡ true
    → (MeetsSink (guarded_call program budget g) → ⊥) → without_marks (guarded_call program budget g) ≡ plain_call program budget g.plain
unfolding guarded_call plain_call
transparent (refuse f) budget g t h = refl
transparent (pass program) budget g t h = go (guarded_entry g) refl
  where
    go : (b : Bool) → guarded_entry g ≡ b
        → without_marks (choose (guarded_entry g) (guarded_answered g (guarded_run_of program budget g)) (refused_call BadState g))
        ≡ choose (plain_entry g.plain) (plain_answered g.plain (plain_run_of program budget g.plain)) (refused_call BadState g.plain)
    go true e =
        ap without_marks (guarded-passes program g budget e)
        ∙ (ap (plain_answered g.plain)
        ((run-beside number_cells mark_cells (environment program g.plain) budget (guarded_state_of g)).transparent
        (λ a. h (ap (λ (c : Called GuardedSnapshot). c.answer) (guarded-passes program g budget e) ∙ (ap meaning a ∙ sink-meaning))))
        ∙ sym (plain-run program budget g budget e))
    go false e =
        ap (λ b. without_marks (choose b (guarded_answered g (guarded_run_of program budget g)) (refused_call BadState g))) e
        ∙ ap (λ b. choose b (plain_answered g.plain (plain_run_of program budget g.plain)) (refused_call BadState g.plain)) (sym e ∙ entry-split g t)

stops-early : (program : Result (List Instruction)) (budget : ℕ) (g : GuardedSnapshot) (k : ℕ) → SinkAfter k (guarded_call program budget g)
    → (k < budget) × (plain_call program k g.plain ≡ paused_after k (guarded_call program budget g).left.plain)
stops-early (refuse f) budget g k a = absurd (refused-no-sink f budget g a.0)
stops-early (pass program) budget g k a =
    let t = sink-enters program budget g a.0 in
    let h = (run-beside number_cells mark_cells (environment program g.plain) budget (guarded_state_of g)).early (run-sinks program budget g a.0) in
    subst (λ k. (k < budget) × (plain_call (pass program) k g.plain ≡ paused_after k (guarded_call (pass program) budget g).left.plain)) a.1
    (subst (λ (c : Called GuardedSnapshot). (c.steps < budget) × (plain_call (pass program) c.steps g.plain ≡ paused_after c.steps c.left.plain))
    (sym (guarded-passes program g budget t)) (
      h.0,
      plain-run program budget g (guarded_run_of program budget g).steps t
          ∙ (ap (plain_answered g.plain) h.1
          ∙ ap (λ (m : Meaning). record { answer = m; steps = (guarded_run_of program budget g).steps; left = snapshot_after g.plain (guarded_run_of program budget g).state.plain })
          paused-meaning),
    ))

-- Exactly at a sink

-- how a run ends with 18
sink_ends : {e : Environment} {s s' : State number_cells} {t t' : Marking} {budget k : ℕ} {m : Meaning} → RunByRules e s t budget m k s' t' → m ≡ refusal 18 []
    → (k < budget) × Comes e s t k s' t' × ReachesSink e s' t'
sink_ends (paused c) h = absurd (let z : ◌≡◌ {A = ℕ} 0 1 = cc in omega arith)
sink_ends (refused {n = n} b c u r) h = absurd (let z : n ≡ 18 = cc in let l = r.greatest in omega arith)
sink_ends (stopped b c u) h = (b, c, u)
sink_ends (ended l) h = absurd (let z : ◌≡◌ {A = ℕ} 0 1 = cc in omega arith)
sink_ends (called l) h = absurd (let z : ◌≡◌ {A = ℕ} 0 1 = cc in omega arith)
sink_ends (delegated l) h = absurd (let z : ◌≡◌ {A = ℕ} 0 1 = cc in omega arith)
sink_ends (clock l c) h = absurd (let z : ◌≡◌ {A = ℕ} 17 18 = cc in omega arith)

sink-reaches : (program : Result (List Instruction)) → LoadedInRange program → (budget : ℕ) (g : GuardedSnapshot) (k : ℕ)
    → SinkAfter k (guarded_call program budget g) → (k < budget) × Reaches program g k
sink-reaches (refuse f) l budget g k h = absurd (refused-no-sink f budget g h.0)
sink-reaches (pass program) l budget g k h =
    let t = sink-enters program budget g h.0 in
    let c = guarded-passes program g budget t in
    let w = sink_ends (run-by-rules (environment program g.plain) l budget (guarded_state_of g) refl) (sym (ap (λ (c : Called GuardedSnapshot). c.answer) c) ∙ h.0) in
    let s : (guarded_run_of program budget g).steps ≡ k = sym (ap (λ (c : Called GuardedSnapshot). c.steps) c) ∙ h.1 in
    subst (λ k. (k < budget) × Reaches (pass program) g k) s (w.0, reaches t w.1 w.2)

reaches-sink : (program : Result (List Instruction)) → LoadedInRange program → (budget : ℕ) (g : GuardedSnapshot) (k : ℕ) → k < budget → Reaches program g k
    → SinkAfter k (guarded_call program budget g)
reaches-sink x l budget g k b (reaches {program} t c u) =
    let w = rules-run (environment program g.plain) l (stopped b c u) (guarded_state_of g).marks refl refl in
    let e = guarded-passes program g budget t in
    (ap (λ (c : Called GuardedSnapshot). c.answer) e ∙ w.answer, ap (λ (c : Called GuardedSnapshot). c.steps) e ∙ w.steps)

never-reaches : (program : Result (List Instruction)) (g : GuardedSnapshot) (k : ℕ) → Unmarked g → Reaches program g k → ⊥
never-reaches program g k n (reaches t c u) = clean-reaches c (clean-start g n) u

-- Every program as loaded, and every budget

holds : (program : Result (List Instruction)) → LoadedInRange program → (budget : ℕ)
    → NonInterference program budget (guarded_call program budget) (plain_call program)
holds program l budget =
    record {
      agrees = calls_same program budget;
      transparent = transparent program budget;
      unfit = λ g t. unfit program budget g (entry-unfit g t);
      stops_early = stops-early program budget;
      exact = λ g k. (sink-reaches program l budget g k, λ h. reaches-sink program l budget g k h.0 h.1);
      clean = λ g n a. never-reaches program g _ n (sink-reaches program l budget g _ (a, refl)).1;
    }

-- The three guarded calls

pub words-hold : (words : List ℕ) (budget : ℕ) → NonInterference (load_words words) budget (guarded_words words budget) (plain_words words)
unfolding guarded_words plain_words
words-hold words budget = holds (load_words words) (load_words-in-range words) budget

pub text-holds : (text : List ℕ) (budget : ℕ) → NonInterference (load_text text) budget (guarded_text text budget) (plain_text text)
unfolding guarded_text plain_text
text-holds text budget = holds (load_text text) (load_text-in-range text) budget

-- a text's program with any budget, and with its own
pub job-holds : (text : List ℕ) (budget : ℕ)
    → NonInterference (job_program (load_budget_text text)) budget (guarded_call (job_program (load_budget_text text)) budget) (plain_call (job_program (load_budget_text text)))
job-holds text budget = holds (job_program (load_budget_text text)) (load_budget_text-in-range text) budget

pub budget-text-holds : (text : List ℕ)
    → NonInterference (job_program (load_budget_text text)) (job_budget (load_budget_text text)) (guarded_budget_text text) (plain_call (job_program (load_budget_text text)))
unfolding guarded_budget_text
budget-text-holds text = job-holds text (job_budget (load_budget_text text))
