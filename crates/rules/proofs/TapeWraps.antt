-- TLOAD's test of dst and count: where it refuses, the first value's store is refused the same.
use Prim.Native.Nat.{ℕ, suc, ◌+◌, ◌-◌, ◌≤◌}
use mathlib.Core.Path.{◌≡◌, refl, ap, ◌∙◌}
use mathlib.Core.Bool.{Bool, true, false, not}
use mathlib.Core.List.{List, [], ◌∷◌}
use native.Mathlib.Omega.{arith}
use lib.Dec.{leb, eqb}
use lib.ListN.{length, take, drop, replicate, length-take, length-drop, length-replicate}
use borrow.Author.Tests.{leb-true, le-ltb, le-leb}
use Rattle.rules.specs.declared.Instruction.{Instruction}
use Rattle.rules.specs.declared.Held.{Held}
use Rattle.rules.specs.declared.Refusal.{Refusal}
use Rattle.rules.specs.declared.Refusal.TheVariants.{TapeFault, StoreFault, ProphetStore}
use Rattle.rules.specs.Numbers.{p, heap_end, word_end, value_limit, choose}
use Rattle.rules.specs.Results.{Result, refuse, require, bind}
use Rattle.rules.specs.Memory.{Memory}
use Rattle.rules.specs.Opcodes.{tape_load}
use Rattle.rules.specs.Step.{Environment, State, is_storable, on_tape, tape_values, wraps, store_many, operate}
use Rattle.rules.specs.Cells.{number_cells}
use Rattle.rules.specs.Entry.{plain_entry, guarded_entry, environment}
use Rattle.rules.specs.Calls.{guarded_run_of}
use Rattle.rules.specs.Soundness.{GuardedSound}
use Rattle.rules.specs.WrapTest.{DecidesNothing, last_below, untested, WrapTest}
use Rattle.rules.proofs.Laws.EntryLaws.{all-at}
use Rattle.rules.proofs.Soundness.PlainSoundness.{run_sound}
use Rattle.rules.proofs.Soundness.GuardedSoundness.{guarded-run-sound}
use Rattle.rules.proofs.Soundness.EntrySoundness.{entry-sound, guarded-entry-sound}

-- what is loaded is no longer than the tape
values-short : (a b : ℕ) (tape : List ℕ) → length (tape_values a b tape) ≤ length tape
values-short a b tape = go (eqb a 0)
  where
    go : (t : Bool) → length (choose t (take 1 (drop b tape)) (drop (length tape - b) tape)) ≤ length tape
    go true = omega (arith, length-take 1 (drop b tape), length-drop b tape)
    go false = omega (arith, length-drop (length tape - b) tape)

refused-anyway : {A : Type 0} (b : Bool) (f : Refusal) → require {A = A} b f (refuse f) ≡ refuse f
unfolding require
refused-anyway true f = refl
refused-anyway false f = refl

module _ (number_memory : Memory Held) where
  open number_memory use {Mem}

  -- from p on nothing is stored: whatever the number
  refused-from-p : (moment : ℕ) (c : Mem) (a v : ℕ) (vs : List ℕ) → p ≤ a → store_many number_memory moment c a (v ∷ vs) ≡ refuse StoreFault
  unfolding store_many require
  refused-from-p m c a v vs h = rw (le-ltb a p h) (refused-anyway (is_storable v) StoreFault)

  without-test : {A : Type 0} (moment : ℕ) (c : Mem) (a : ℕ) (vs : List ℕ) (k : Mem → Result A) → length vs ≤ 0xFFFFFFFF
      → require (not (wraps a vs)) StoreFault (bind (store_many number_memory moment c a vs) k) ≡ bind (store_many number_memory moment c a vs) k
  unfolding require bind p word_end
  without-test m c a [] k h = refl
  without-test m c a (v ∷ vs) k h = go (leb word_end (a + length (v ∷ vs))) refl
    where
      go : (t : Bool) → leb word_end (a + length (v ∷ vs)) ≡ t
          → require (not t) StoreFault (bind (store_many number_memory m c a (v ∷ vs)) k) ≡ bind (store_many number_memory m c a (v ∷ vs)) k
      go true e = let l = leb-true word_end (a + length (v ∷ vs)) e in rw (refused-from-p m c a v vs (omega arith))
      go false e = refl

  pub short-tape : (e : Environment) (s : State number_memory) → length s.tape ≤ 0xFFFFFFFF → DecidesNothing number_memory e s
  unfolding operate
  short-tape e s h i o =
      ap (require (on_tape o.op0 o.op1 s.tape) TapeFault)
      (without-test s.clk s.cells o.dst (tape_values o.op0 o.op1 s.tape) _ (omega (arith, values-short o.op0 o.op1 s.tape)))

  -- a tape of 2^32 values
  longer-tape : (e : Environment) (s : State number_memory) (n : ℕ) → n ≡ 0xFFFFFFFF → s.tape ≡ replicate (suc n) 0 → (i : Instruction)
      → (operate number_memory e tape_load i s (last_below (suc n)) ≡ refuse StoreFault) × (untested number_memory i s (last_below (suc n)) ≡ refuse ProphetStore)
  unfolding operate require bind store_many p heap_end word_end
  longer-tape e s n m t i =
      let l : length s.tape ≡ suc n = ap length t ∙ length-replicate (suc n) 0 in
      let none : length s.tape - suc n ≡ 0 = omega arith in
      let whole : drop (length s.tape - suc n) s.tape ≡ 0 ∷ replicate n 0 = ap (λ k. drop k s.tape) none ∙ t in
      let written : leb (suc n) (length s.tape) ≡ true = le-leb (suc n) (length s.tape) (omega arith) in
      let zeros : List ℕ = replicate n 0 in
      let count : length zeros ≡ n = length-replicate n 0 in
      let past : leb word_end ((p - 1) + suc (length zeros)) ≡ true = le-leb word_end ((p - 1) + suc (length zeros)) (omega arith) in
      (rw (written, whole, past), rw (written, whole))

-- Every state that a call comes to has a tape that fits its buffer, of at most 4,096 values

few : {n k : ℕ} → n ≤ k → leb k value_limit ≡ true → n ≤ 0xFFFFFFFF
unfolding value_limit
few {n} {k} h t = let l = leb-true k value_limit t in omega arith

pub wrap-test : WrapTest
unfolding plain_entry guarded_entry
wrap-test =
    record {
      short_tape = short-tape;
      longer_tape = λ number_memory e s t i. longer-tape number_memory e s 0xFFFFFFFF refl t i;
      plain_calls = λ program s ten t steps.
          short-tape number_cells _ _ (few (run_sound _ steps _ (entry-sound program s ten t)).tape_fits (all-at _ t 7));
      guarded_calls = λ program g ten t steps.
          let h : GuardedSound (environment program g.plain) (guarded_run_of program steps g).state = guarded-run-sound _ steps _ (guarded-entry-sound program g ten t) in
          short-tape number_cells _ _ (few h.plain.tape_fits (all-at _ (all-at _ t 0) 7));
    }
