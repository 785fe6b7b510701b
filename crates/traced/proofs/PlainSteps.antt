-- The plain step, in place or on copies: it is the rules' run with budget 1.
use Prim.Native.Nat.{ℕ, ◌≤◌}
use mathlib.Core.Path.{◌≡◌, refl, sym, ap, subst, ◌∙◌}
use mathlib.Core.Bool.{true, false}
use mathlib.Core.List.{List, []}
use native.Mathlib.Omega.{arith}
use lib.ListN.{length, take}
use borrow.Author.Tests.{leb-true, eqb-true, ne_eqb}
use Rattle.rules.specs.declared.Instruction.{Instruction}
use Rattle.rules.specs.declared.Machine.{Machine}
use Rattle.rules.specs.declared.Ran.{Ran}
use Rattle.rules.specs.declared.Answer.TheVariants.{ShortBuffer}
use Rattle.rules.specs.Numbers.{cell_limit, value_limit}
use Rattle.rules.specs.Step.{overlay}
use Rattle.rules.specs.Entry.{Snapshot, GuardedSnapshot, plain_entry, environment, guarded_state_of, guarded_snapshot_after}
use Rattle.rules.specs.Calls.{plain_run_of}
use Rattle.rules.specs.Handed.{snapshot, no_marks}
use Rattle.rules.proofs.Laws.EntryLaws.{all-at}
use Rattle.rules.proofs.Laws.OverlayLaws.{length-overlay, take-overlay}
use Rattle.hardware.specs.Buffers.{Rising}
use Rattle.effects.specs.declared.Mode.{Mode}
use Rattle.effects.proofs.ModeRuns.{mode-plain}
use Rattle.interpreter.specs.Runs.{handed, snapshot_left, PassedEntry, Runs}
use Rattle.checking.specs.ModeCalls.{mode_entry}
use Rattle.calling.proofs.Entered.{passed}
use Rattle.traced.specs.Steps.{PlainAnswer, PlainStep, short_answer}

abbrev pub plain_mode : Mode
plain_mode = record { guarded = false; extras = no_marks }

module _ (m : Machine) (xs ns ms tape output : List ℕ) where
  abbrev s : Snapshot
  s = snapshot m xs ns ms tape output

  abbrev g : GuardedSnapshot
  g = handed plain_mode m xs ns ms [] tape output

  -- what passed entry may run
  pub passes-plain : plain_entry s ≡ true → PassedEntry plain_mode g
  unfolding mode_entry
  passes-plain h = passed g false false refl no_marks h (λ _. (refl, refl))

  -- what the run gives
  module _ (program : List Instruction) (r : Ran) (xs' ns' ms' ts' tape' output' : List ℕ) where
    pub stepped-plain : Runs plain_mode program 1 g r (snapshot_left plain_mode r xs' ns' ms' ts' tape' output') → PlainStep program s r (snapshot r.machine xs' ns' ms' tape' output')
    stepped-plain h =
        let p = mode-plain (environment program s) 1 (guarded_state_of g) in
        record {
          answered = record { answer = h.answer ∙ (λ i. (p i).answer); steps = h.steps ∙ (λ i. (p i).steps) };
          left = ap (λ (l : GuardedSnapshot). l.plain) h.snapshot ∙ (λ i. (guarded_snapshot_after g (p i).state).plain);
          extras = ap (λ (l : GuardedSnapshot). l.extras) h.snapshot ∙ (λ i. (guarded_snapshot_after g (p i).state).extras);
        }

  -- the buffers are no longer than the copies
  pub record Short : Type 0 where
    pub addresses : length xs ≤ 2048
    pub numbers : length ns ≤ 2048
    pub moments : length ms ≤ 2048
    pub tapes : length tape ≤ 4096
    pub outputs : length output ≤ 4096

  pub short-buffers : plain_entry s ≡ true → Short
  unfolding plain_entry cell_limit value_limit
  short-buffers h =
      let a : length xs ≤ 2048 = leb-true _ _ (all-at _ h 6) in
      let b : length ns ≡ length xs = eqb-true _ _ (all-at _ h 4) in
      let c : length ms ≡ length xs = eqb-true _ _ (all-at _ h 5) in
      record {
        addresses = a;
        numbers = omega (arith, a, b);
        moments = omega (arith, a, c);
        tapes = leb-true _ _ (all-at _ h 7);
        outputs = leb-true _ _ (all-at _ h 8);
      }

  -- the cells can be looked up
  pub cells-rise : plain_entry s ≡ true → Rising m.cell_count xs
  unfolding plain_entry
  cells-rise h = record { within = leb-true _ _ (all-at _ h 1); rises = all-at _ h 9 }

  pub as-many-numbers : plain_entry s ≡ true → length ns ≡ length xs
  unfolding plain_entry
  as-many-numbers h = eqb-true _ _ (all-at _ h 4)

  pub as-many-moments : plain_entry s ≡ true → length ms ≡ length xs
  unfolding plain_entry
  as-many-moments h = eqb-true _ _ (all-at _ h 5)

-- A copy at the front of a longer buffer
module _ (xs before copied : List ℕ) (h : copied ≡ overlay xs before) (fits : length xs ≤ length before) where
  pub copy-long : length xs ≤ length copied
  copy-long = rw (h, length-overlay xs before fits) fits

  pub copy_is : take (length xs) copied ≡ xs
  copy_is = ap (take (length xs)) h ∙ take-overlay xs before (length xs) refl

-- equal buffers give equal answers
module _ (m : Machine) (xs ns ms tape output xs' ns' ms' tape' output' : List ℕ)
    (a : xs' ≡ xs) (b : ns' ≡ ns) (c : ms' ≡ ms) (d : tape' ≡ tape) (e : output' ≡ output) where
  same : snapshot m xs' ns' ms' tape' output' ≡ snapshot m xs ns ms tape output
  same = λ i. snapshot m (a i) (b i) (c i) (d i) (e i)

  pub same-enters : plain_entry (snapshot m xs ns ms tape output) ≡ true → plain_entry (snapshot m xs' ns' ms' tape' output') ≡ true
  same-enters h = ap plain_entry same ∙ h

  pub same-answers : (program : List Instruction) (r : Ran) → PlainAnswer program (snapshot m xs' ns' ms' tape' output') r
      → PlainAnswer program (snapshot m xs ns ms tape output) r
  same-answers program r h = subst (λ (t : Snapshot). PlainAnswer program t r) same h

-- Where the sheet is too short

module _ (program : List Instruction) (s : Snapshot) (r : Ran) (h : PlainAnswer program s r) where
  pub own-refusal : r.steps ≡ 0 → r.answer ≡ short_answer program s
  own-refusal z = rw (sym h.steps ∙ z) h.answer

  pub too_short : (r.steps ≡ 0 → ⊥) → ShortBuffer ≡ short_answer program s
  too_short n = rw (ne_eqb (plain_run_of program 1 s).steps 0 (λ z. n (h.steps ∙ z))) refl
