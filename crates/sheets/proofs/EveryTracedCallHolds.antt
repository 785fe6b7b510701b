-- The theorem: what demand 1 promises holds of every traced call.
use Prim.Native.Nat.{ℕ, ◌+◌, ◌<◌, ◌≤◌}
use mathlib.Core.Path.{◌≡◌, refl, sym, ap, subst, ◌∙◌}
use mathlib.Core.Bool.{Bool, true, false}
use mathlib.Core.List.{List, []}
use native.Mathlib.Omega.{arith}
use lib.ListN.{length, length-replicate}
use borrow.Author.Tests.{ltb-true, lt-ltb}
use Rattle.rules.specs.declared.Instruction.{Instruction}
use Rattle.rules.specs.declared.Refusal.{Refusal}
use Rattle.rules.specs.declared.Refusal.TheVariants.{BadState}
use Rattle.rules.specs.Results.{Result, refuse, pass}
use Rattle.rules.specs.Frames.{load_words}
use Rattle.rules.specs.Text.{load_text, load_budget_text}
use Rattle.rules.specs.Cells.{number_cells}
use Rattle.rules.specs.Answers.{Meaning, outcome, refusal, refusal_meaning}
use Rattle.rules.specs.Entry.{Snapshot, plain_entry, environment, state_of}
use Rattle.rules.specs.Calls.{Called, refused_call, paused_after, job_budget, job_program, plain_call, plain_words, plain_text, plain_budget_text}
use Rattle.rules.specs.EveryCall.{IsAnswer, ended, calling, delegate-calling, paused, malformed, refused, When, at_entry, instead_of_step, with_step, at_budget, when, PlainPromised}
use Rattle.rules.proofs.Laws.AnswerLaws.{refusal-not-paused}
use Rattle.rules.proofs.EveryCall.AnswerTimes.{apart, refusal-answers}
use Rattle.rules.proofs.EveryCall.Promises.{entry-refused, promised}
use Rattle.rules.proofs.EveryCall.EveryCallHolds.{every_call}
use Rattle.sheets.specs.Lines.{is_short}
use Rattle.sheets.specs.Traced.{short, passes, after, unread_where, short_where, traced_step}
use Rattle.sheets.specs.StepBeside.{line_here}
use Rattle.sheets.specs.TracedCalls.{TracedSnapshot, traced_call, traced_words, traced_text, traced_budget_text}
use Rattle.sheets.specs.SameRun.{after_lines, StepAfter, NeitherBefore, without_sheet, Ends, as_plain, at-further-read, at-short-sheet, SameCall}
use Rattle.sheets.specs.EveryTracedCall.{TracedKept, ShortAfter, TracedPromised, EveryTracedCall}
use Rattle.sheets.proofs.Stepping.{traced-beside}
use Rattle.sheets.proofs.StepViews.{view, view-short}
use Rattle.sheets.proofs.SameRunHolds.{traced-unfit, same-call}
use Rattle.sheets.proofs.TracedCallEnds.{TracedPlainly, traced-entered}

-- Refused at entry

traced-kept : (t : TracedSnapshot) → TracedKept t t
traced-kept t =
    record {
      plain = record { psp = refl; storage = refl; addresses = refl; numbers = refl; moments = refl; tape = refl; output = refl };
      sheet = refl;
    }

entry-promised : (program : Result (List Instruction)) (budget : ℕ) (t : TracedSnapshot) (f : Refusal) → when (refusal_meaning f) ≡ at_entry
    → ((n : ℕ) → traced_call program n t ≡ refused_call f t) → TracedPlainly program budget t (refused_call f t)
entry-promised program budget t f a h =
    promised _ _ _ _ _ _ (λ t. t.plain) TracedKept (sym (h budget)) (omega arith) (traced-kept t)
    (λ more _. h (budget + more))
    (entry-refused (refusal-answers 19 (omega arith) f) a)

-- what every plain call of a program is promised, for any budget
abbrev PlainlyPromised : Result (List Instruction) → Type 0
PlainlyPromised program =
    (budget : ℕ) (s : Snapshot) → length s.machine.registers ≡ 10 → PlainPromised program budget s (plain_call program budget s)

-- a program's own refusal comes at entry: with budget 0 there is no other place
refused-at-entry : (f : Refusal) (s : Snapshot) → length s.machine.registers ≡ 10 → PlainlyPromised (refuse f)
    → when (refusal_meaning f) ≡ at_entry
unfolding plain_call
refused-at-entry f s ten plain = go (when (refusal_meaning f)) refl
  where
    go : (w : When) → when (refusal_meaning f) ≡ w → w ≡ at_entry
    go at_entry h = refl
    go instead_of_step h = absurd (let z = ((plain 0 s ten).refused_at_step h).0 in omega arith)
    go with_step h = absurd (let z = ((plain 0 s ten).ended_by_step h).counted in omega arith)
    go at_budget h =
        absurd
        (refusal-not-paused f
        ((plain 0 s ten).paused_exactly.1
        (refl, λ z. apart at_budget at_entry h z (λ z. omega arith), λ z. apart at_budget with_step h z (λ z. omega arith))))

-- The promises that every call gets

plainly : (program : Result (List Instruction)) → PlainlyPromised program → (budget : ℕ) (t : TracedSnapshot)
    → length t.plain.machine.registers ≡ 10
    → TracedPlainly program budget t (traced_call program budget t)
unfolding traced_call refusal_meaning
plainly (refuse f) plain budget t ten = entry-promised (refuse f) budget t f (refused-at-entry f t.plain ten plain) (λ n. refl)
plainly (pass program) plain budget t ten = go (plain_entry t.plain) refl
  where
    go : (b : Bool) → plain_entry t.plain ≡ b → TracedPlainly (pass program) budget t (traced_call (pass program) budget t)
    go true h = traced-entered program t ten h budget
    go false h =
        subst (TracedPlainly (pass program) budget t) (sym (traced-unfit program t h budget))
        (entry-promised (pass program) budget t BadState refl (traced-unfit program t h))

-- 18 and 19

number_of : Meaning → ℕ
number_of (outcome n vs) = 0
number_of (refusal n vs) = n

-- a plain call gives neither
plain-number : {m : Meaning} → IsAnswer 17 m → number_of m ≤ 17
unfolding number_of
plain-number ended = omega arith
plain-number calling = omega arith
plain-number delegate-calling = omega arith
plain-number paused = omega arith
plain-number malformed = omega arith
plain-number (refused a b c) = b

module _ (program : Result (List Instruction)) (plain : PlainlyPromised program) (t : TracedSnapshot)
    (ten : length t.plain.machine.registers ≡ 10) where
  same : (budget : ℕ) → SameCall program t budget (traced_call program budget t)
  same budget = same-call program budget t ten

  no_plain : {X : Type 0} (budget n : ℕ) → 17 < n → (plain_call program budget t.plain).answer ≡ refusal n [] → X
  unfolding number_of
  no_plain budget n l h = absurd (let a = plain-number (plain budget t.plain ten).answer in let z = ap number_of h in omega arith)

  never : (budget : ℕ) {c : Called Snapshot} → Ends program t budget c → c.answer ≡ refusal 18 [] → ⊥
  unfolding number_of
  never budget (as_plain h) z = no_plain budget 18 (omega arith) z
  never budget (at-further-read l h m) z = let y = ap number_of z in omega arith
  never budget (at-short-sheet l h m) z = let y = ap number_of z in omega arith

  -- the traced call with budget k paused, and so did the plain one
  paused-too : (k : ℕ) → NeitherBefore program t k → {x : _} (m : StepAfter program t k x)
      → traced_call program k t ≡ paused_after k (record { plain = m.left; sheet = (traced_call program k t).left.sheet })
  paused-too k h m =
      let e = (same k).as_plain_call h ∙ m.paused in
      λ i.
      record {
        answer = ap (λ (c : Called Snapshot). c.answer) e i;
        steps = ap (λ (c : Called Snapshot). c.steps) e i;
        left = record { plain = ap (λ (c : Called Snapshot). c.left) e i; sheet = (traced_call program k t).left.sheet };
      }

  short-after : (budget k : ℕ) → k < budget → NeitherBefore program t k → (m : StepAfter program t k short) → ShortAfter program budget t k
  short-after budget k l h m =
      let v = view-short (environment m.instructions m.left) (length t.sheet)
      (view (environment m.instructions m.left) (length t.sheet) (after_lines k m.left)) m.step in
      record {
        below = l;
        left = record { plain = m.left; sheet = (traced_call program k t).left.sheet };
        paused = paused-too k h m;
        instructions = m.instructions;
        loaded = m.loaded;
        reads = v.1;
        next = v.0;
        accepted = v.2;
        few = ltb-true _ _ (subst (λ n. is_short (length t.sheet) n ≡ true) (length-replicate k []) v.3);
      }

  to-short : (budget k : ℕ) {c : Called Snapshot} → Ends program t budget c → c.answer ≡ refusal 19 [] → c.steps ≡ k
      → ShortAfter program budget t k
  unfolding number_of
  to-short budget k (as_plain h) z y = no_plain budget 19 (omega arith) z
  to-short budget k (at-further-read l h m) z y = absurd (let w = ap number_of z in omega arith)
  to-short budget k (at-short-sheet {k = j} l h m) z y = subst (ShortAfter program budget t) y (short-after budget j l h m)

  -- where a call paused neither came before
  neither : (k : ℕ) {c : Called Snapshot} → Ends program t k c → c.answer ≡ outcome 3 [] → NeitherBefore program t k
  unfolding number_of
  neither k (as_plain h) z = h
  neither k (at-further-read l h m) z = absurd (let w = ap number_of z in omega arith)
  neither k (at-short-sheet l h m) z = absurd (let w = ap number_of z in omega arith)

  step-short : (budget k : ℕ) → (m : ShortAfter program budget t k)
      → traced_step number_cells (environment m.instructions m.left.plain) (length t.sheet) (after_lines k m.left.plain) ≡ short
  unfolding unread_where after short_where
  step-short budget k m =
      let e = environment m.instructions m.left.plain in
      let s = state_of m.left.plain in
      let b : is_short (length t.sheet) (length (after_lines k m.left.plain).lines) ≡ true =
      subst (λ n. is_short (length t.sheet) n ≡ true) (sym (length-replicate k [])) (lt-ltb _ _ m.few)
      in
      traced-beside number_cells e (length t.sheet) (after_lines k m.left.plain)
      ∙ (λ i. unread_where (m.reads i)
      (after (m.accepted i) λ n. short_where (b i) (passes (record { next = n; line = line_here number_cells e s n }))))

  from-short : (budget k : ℕ) → ShortAfter program budget t k
      → ((traced_call program budget t).answer ≡ refusal 19 []) × ((traced_call program budget t).steps ≡ k)
  from-short budget k m =
      let h = neither k (same k).ends (ap (λ (c : Called TracedSnapshot). c.answer) m.paused) in
      let p = sym ((same k).as_plain_call h) ∙ ap without_sheet m.paused in
      let e =
      (same budget).at_short_sheet k m.below h
      (record { instructions = m.instructions; loaded = m.loaded; left = m.left.plain; paused = p; step = step-short budget k m })
      in
      (ap (λ (c : Called Snapshot). c.answer) e, ap (λ (c : Called Snapshot). c.steps) e)

  traced-promised : (budget : ℕ) → TracedPromised program budget t (traced_call program budget t)
  traced-promised budget =
      record {
        promised = plainly program plain budget t ten;
        never18 = never budget (same budget).ends;
        short_exactly = λ k. (λ h. to-short budget k (same budget).ends h.0 h.1, from-short budget k);
      }

pub every-traced-call : EveryTracedCall
unfolding traced_words traced_text traced_budget_text plain_words plain_text plain_budget_text
every-traced-call =
    record {
      of_words = λ words budget t ten. traced-promised (load_words words) (every_call.of_words words) t ten budget;
      of_text = λ text budget t ten. traced-promised (load_text text) (every_call.of_text text) t ten budget;
      of_budget_text = λ text t ten. traced-promised (job_program (load_budget_text text)) (every_call.of_budget_text_program text) t ten
          (job_budget (load_budget_text text));
      of_budget_text_program = λ text budget t ten. traced-promised (job_program (load_budget_text text))
          (every_call.of_budget_text_program text) t ten budget;
    }
