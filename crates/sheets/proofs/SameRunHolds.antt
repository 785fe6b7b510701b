-- The theorem: a traced and an untraced run are the same run, but for the further read and 19.
use Prim.Native.Nat.{ℕ, ◌<◌}
use native.Mathlib.Nat.{zero-add}
use mathlib.Core.Path.{◌≡◌, refl, sym, ap, subst, ◌∙◌}
use mathlib.Core.Bool.{Bool, true, false}
use mathlib.Core.List.{List, []}
use native.Mathlib.Omega.{arith}
use lib.Dec.{ltb}
use lib.ListN.{length, replicate}
use borrow.Author.Tests.{ltb-true, ltb-false}
use Rattle.rules.specs.declared.Instruction.{Instruction}
use Rattle.rules.specs.declared.Refusal.{Refusal}
use Rattle.rules.specs.declared.Refusal.TheVariants.{BadState}
use Rattle.rules.specs.Numbers.{choose}
use Rattle.rules.specs.Results.{Result, refuse, pass}
use Rattle.rules.specs.Frames.{load_words}
use Rattle.rules.specs.Text.{load_text, load_budget_text}
use Rattle.rules.specs.Cells.{number_cells}
use Rattle.rules.specs.Step.{Environment, State, RunEnd}
use Rattle.rules.specs.Answers.{meaning, refusal_meaning}
use Rattle.rules.specs.Entry.{Snapshot, plain_entry, environment, state_of, snapshot_after}
use Rattle.rules.specs.Calls.{Called, refused_call, paused_after, plain_run_of, plain_answered, job_budget, job_program, plain_call}
use Rattle.rules.specs.Soundness.{Sound}
use Rattle.rules.proofs.Laws.ResultLaws.{refuse-pass, pass-injective}
use Rattle.rules.proofs.Laws.AnswerLaws.{refusal-not-paused, paused-answer}
use Rattle.rules.proofs.Soundness.PlainSoundness.{run_sound}
use Rattle.rules.proofs.Soundness.EntrySoundness.{entry-sound}
use Rattle.rules.proofs.Resumption.Resuming.{resumable}
use Rattle.rules.proofs.Resumption.CallSplits.{resumed-behind, plain_passes}
use Rattle.rules.proofs.EveryCall.RunEnds.{paused_run}
use Rattle.sheets.specs.Traced.{unread, short, traced_step}
use Rattle.sheets.specs.TracedCalls.{TracedSnapshot, traced_state_of, traced_answered, traced_run_of, traced_call, traced_words, traced_text, traced_budget_text}
use Rattle.sheets.specs.SameRun.{after_lines, StepAfter, NeitherBefore, without_sheet, refused_after, Ends, as_plain, at-further-read, at-short-sheet, SameCall, SameRun}
use Rattle.sheets.proofs.StepViews.{TracedStep, place, apart, is-unread, is-short, BothTraced, both-places, traced-behind}
use Rattle.sheets.proofs.RunsBeside as Runs
use Rattle.sheets.proofs.RunsBeside.{lined, RunEnds, NeitherIn, run_ends}

-- A loaded program, from a start that passes entry

module _ (program : List Instruction) (t : TracedSnapshot) (ten : length t.plain.machine.registers ≡ 10)
    (enters : plain_entry t.plain ≡ true) where
  abbrev pub s : Snapshot
  s = t.plain

  abbrev pub here : Environment
  here = environment program s

  abbrev pub sheet : ℕ
  sheet = length t.sheet

  -- a run that paused, and the call that did
  pub paused-call : {k : ℕ} {u : State number_cells} → plain_run_of program k s ≡ paused_run k u
      → plain_call (pass program) k s ≡ paused_after k (snapshot_after s u)
  unfolding meaning
  paused-call {k} p = plain_passes program s k enters ∙ ap (plain_answered s) p

  -- the step from what the call left is that from the state as it was, but for what is written behind the output
  module _ {k : ℕ} {u : State number_cells} (p : plain_run_of program k s ≡ paused_run k u) where
    pub sound : Sound here u
    sound =
        subst (Sound here) (ap (λ (r : RunEnd (State number_cells)). r.state) p)
        (run_sound here k (state_of s) (entry-sound program s ten enters))

    pub both-steps : BothTraced here sheet u.written
        (traced_step number_cells here sheet (lined k u))
        (traced_step number_cells (environment program (snapshot_after s u)) sheet (after_lines k (snapshot_after s u)))
    both-steps =
        let again = resumable program s u enters sound in
        subst (BothTraced here sheet u.written (traced_step number_cells here sheet (lined k u)))
        (λ i. traced_step number_cells (sym again.environment i) sheet (record { plain = sym again.state i; lines = replicate k [] }))
        (traced-behind here sheet (replicate k []) (resumed-behind u sound))

    same_place : place (traced_step number_cells here sheet (lined k u))
        ≡ place (traced_step number_cells (environment program (snapshot_after s u)) sheet (after_lines k (snapshot_after s u)))
    same_place = both-places here sheet both-steps

    abbrev pub step_after : {x : TracedStep}
        → traced_step number_cells (environment program (snapshot_after s u)) sheet (after_lines k (snapshot_after s u)) ≡ x
        → StepAfter (pass program) t k x
    step_after h = record { instructions = program; loaded = refl; left = snapshot_after s u; paused = paused-call p; step = h }

  -- a run that the statement speaks of
  pub record Reached (k : ℕ) (x : TracedStep) (l : Snapshot) : Type 0 where
    pub state : State number_cells
    pub run : plain_run_of program k s ≡ paused_run k state
    pub left : l ≡ snapshot_after s state
    pub step : traced_step number_cells (environment program (snapshot_after s state)) sheet (after_lines k (snapshot_after s state)) ≡ x

  pub reached : {k : ℕ} {x : TracedStep} (m : StepAfter (pass program) t k x) → Reached k x m.left
  reached {k} {x} m =
      let r = plain_run_of program k s in
      let c : plain_answered s r ≡ paused_after k m.left = sym (plain_passes program s k enters) ∙ m.paused in
      let a = paused-answer r.answer (ap (λ (c : Called Snapshot). c.answer) c) in
      let n = ap (λ (c : Called Snapshot). c.steps) c in
      let l : m.left ≡ snapshot_after s r.state = sym (ap (λ (c : Called Snapshot). c.left) c) in
      record {
        state = r.state;
        run = λ i. record { answer = a i; steps = n i; state = r.state };
        left = l;
        step = (λ i. traced_step number_cells (environment (pass-injective m.loaded i) (sym l i)) sheet (after_lines k (sym l i)))
            ∙ m.step;
      }

  -- the lines before a call are none
  count : (k : ℕ) (u : State number_cells) → Runs.after here sheet (traced_state_of t) k u ≡ traced_step number_cells here sheet (lined k u)
  count k u = ap (λ k. traced_step number_cells here sheet (lined k u)) (zero-add k)

  neither : (n : ℕ) → NeitherIn here sheet n (traced_state_of t) → NeitherBefore (pass program) t n
  neither n h k l = (
    (λ m. let r = reached m in (h k l r.state r.run).0 (count k r.state ∙ is-unread _ (same_place r.run ∙ ap place r.step))),
    (λ m. let r = reached m in (h k l r.state r.run).1 (count k r.state ∙ is-short _ (same_place r.run ∙ ap place r.step))),
  )

  ends_so : (n : ℕ) {r : RunEnd (State number_cells)} → RunEnds here sheet n (traced_state_of t) r
      → Ends (pass program) t n (plain_answered s r)
  unfolding meaning refusal_meaning
  ends_so n (Runs.as_plain h) = subst (Ends (pass program) t n) (plain_passes program s n enters) (as_plain (neither n h))
  ends_so n (Runs.at-unread {k} {u} l h p x) =
      at-further-read l (neither k h) (step_after p (is-unread _ (sym (same_place p) ∙ ap place (sym (count k u) ∙ x))))
  ends_so n (Runs.at-short {k} {u} l h p x) =
      at-short-sheet l (neither k h) (step_after p (is-short _ (sym (same_place p) ∙ ap place (sym (count k u) ∙ x))))

  pub traced-passes : (n : ℕ) → traced_call (pass program) n t ≡ traced_answered t (traced_run_of program n t)
  unfolding traced_call
  traced-passes n = ap (λ b. choose b (traced_answered t (traced_run_of program n t)) (refused_call BadState t)) enters

  entered : (n : ℕ) → Ends (pass program) t n (without_sheet (traced_call (pass program) n t))
  entered n =
      subst (λ c. Ends (pass program) t n (without_sheet c)) (sym (traced-passes n)) (ends_so n (run_ends here sheet n (traced_state_of t)))

-- Of any program as loaded

refused-ends : (f : Refusal) (t : TracedSnapshot) (n : ℕ) → Ends (refuse f) t n (refused_call f t.plain)
unfolding plain_call
refused-ends f t n = as_plain (λ k l. ((λ m. refuse-pass m.loaded), (λ m. refuse-pass m.loaded)))

module _ (program : List Instruction) (t : TracedSnapshot) (unfit : plain_entry t.plain ≡ false) where
  plain-unfit : (n : ℕ) → plain_call (pass program) n t.plain ≡ refused_call BadState t.plain
  unfolding plain_call
  plain-unfit n = ap (λ b. choose b (plain_answered t.plain (plain_run_of program n t.plain)) (refused_call BadState t.plain)) unfit

  pub traced-unfit : (n : ℕ) → traced_call (pass program) n t ≡ refused_call BadState t
  unfolding traced_call
  traced-unfit n = ap (λ b. choose b (traced_answered t (traced_run_of program n t)) (refused_call BadState t)) unfit

  never : {k : ℕ} {x : TracedStep} → StepAfter (pass program) t k x → ⊥
  never {k} m = refusal-not-paused BadState (ap (λ (c : Called Snapshot). c.answer) (sym (plain-unfit k) ∙ m.paused))

  unfit-ends : (n : ℕ) → Ends (pass program) t n (without_sheet (traced_call (pass program) n t))
  unfit-ends n =
      subst (Ends (pass program) t n) (plain-unfit n ∙ ap without_sheet (sym (traced-unfit n))) (as_plain (λ k l. (never, never)))

call_ends : (program : Result (List Instruction)) (budget : ℕ) (t : TracedSnapshot) → length t.plain.machine.registers ≡ 10
    → Ends program t budget (without_sheet (traced_call program budget t))
unfolding traced_call
call_ends (refuse f) budget t ten = refused-ends f t budget
call_ends (pass program) budget t ten = go (plain_entry t.plain) refl
  where
    go : (b : Bool) → plain_entry t.plain ≡ b → Ends (pass program) t budget (without_sheet (traced_call (pass program) budget t))
    go true e = entered program t ten e budget
    go false e = unfit-ends program t e budget

-- Each way exactly where it says: two steps after as many are one

record Meeting {program : Result (List Instruction)} {t : TracedSnapshot} {j k : ℕ} {x y : TracedStep} (m : StepAfter program t j x)
    (n : StepAfter program t k y) : Type 0 where
  left : m.left ≡ n.left
  step : x ≡ y

meeting : {program : Result (List Instruction)} {t : TracedSnapshot} {j k : ℕ} {x y : TracedStep} (m : StepAfter program t j x)
    (n : StepAfter program t k y)
    → j ≡ k → Meeting m n
meeting {program} {t} m n e =
    let l : m.left ≡ n.left =
    ap (λ (c : Called Snapshot). c.left) (sym m.paused ∙ ap (λ k. plain_call program k t.plain) e ∙ n.paused)
    in
    let p : m.instructions ≡ n.instructions = pass-injective (sym m.loaded ∙ n.loaded) in
    record {
      left = l;
      step = sym m.step ∙ (λ i. traced_step number_cells (environment (p i) (l i)) (length t.sheet) (after_lines (e i) (l i))) ∙ n.step;
    }

-- the earlier of two steps is not ruled out before the other
first : {X : Type 0} (j k : ℕ) → (j < k → ⊥) → (k < j → ⊥) → (j ≡ k → X) → X
first {X} j k a b c = go (ltb j k) refl (ltb k j) refl
  where
    go : (x : Bool) → ltb j k ≡ x → (y : Bool) → ltb k j ≡ y → X
    go true e y f = absurd (a (ltb-true j k e))
    go false e true f = absurd (b (ltb-true k j f))
    go false e false f = c (omega (arith, ltb-false j k e, ltb-false k j f))

module _ {program : Result (List Instruction)} {t : TracedSnapshot} {budget : ℕ} where
  plain-so : {c : Called Snapshot} → Ends program t budget c → NeitherBefore program t budget → c ≡ plain_call program budget t.plain
  plain-so (as_plain h) g = refl
  plain-so (at-further-read {k} l h m) g = absurd ((g k l).0 m)
  plain-so (at-short-sheet {k} l h m) g = absurd ((g k l).1 m)

  unread-so : {c : Called Snapshot} → Ends program t budget c → (k : ℕ) → k < budget → NeitherBefore program t k
      → (m : StepAfter program t k unread)
      → c ≡ refused_after 11 k m.left
  unread-so (as_plain h) k l g m = absurd ((h k l).0 m)
  unread-so (at-further-read {k = j} a h n) k l g m =
      first j k (λ b. (g j b).0 n) (λ b. (h k b).0 m) (λ e i. refused_after 11 (e i) ((meeting n m e).left i))
  unread-so (at-short-sheet {k = j} a h n) k l g m =
      first j k (λ b. (g j b).1 n) (λ b. (h k b).0 m) (λ e. apart short unread refl (meeting n m e).step (λ z. omega arith))

  short-so : {c : Called Snapshot} → Ends program t budget c → (k : ℕ) → k < budget → NeitherBefore program t k
      → (m : StepAfter program t k short)
      → c ≡ refused_after 19 k m.left
  short-so (as_plain h) k l g m = absurd ((h k l).1 m)
  short-so (at-further-read {k = j} a h n) k l g m =
      first j k (λ b. (g j b).0 n) (λ b. (h k b).1 m) (λ e. apart unread short refl (meeting n m e).step (λ z. omega arith))
  short-so (at-short-sheet {k = j} a h n) k l g m =
      first j k (λ b. (g j b).1 n) (λ b. (h k b).1 m) (λ e i. refused_after 19 (e i) ((meeting n m e).left i))

pub same-call : (program : Result (List Instruction)) (budget : ℕ) (t : TracedSnapshot) → length t.plain.machine.registers ≡ 10
    → SameCall program t budget (traced_call program budget t)
same-call program budget t ten =
    let e = call_ends program budget t ten in
    record { ends = e; as_plain_call = plain-so e; at_further_read = unread-so e; at_short_sheet = short-so e }

pub same-run : SameRun
unfolding traced_words traced_text traced_budget_text
same-run =
    record {
      of_words = λ words. same-call (load_words words);
      of_text = λ text. same-call (load_text text);
      of_budget_text = λ text. same-call (job_program (load_budget_text text)) (job_budget (load_budget_text text));
      of_budget_text_program = λ text. same-call (job_program (load_budget_text text));
    }
