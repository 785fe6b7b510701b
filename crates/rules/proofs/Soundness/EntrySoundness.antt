-- What passes entry stands for a sound state.
use Prim.Native.Nat.{ℕ, suc, ◌≤◌, ◌<◌, min}
use mathlib.Core.Path.{◌≡◌, refl, sym, ap, subst, ◌∙◌}
use mathlib.Core.Bool.{Bool, true, false, not, ◌||◌}
use mathlib.Core.List.{List, [], ◌∷◌, map, map-id}
use native.Mathlib.Omega.{arith}
use lib.Dec.{ltb, leb, eqb}
use lib.ListN.{length, take, length-take}
use lib.Seq.{take-length}
use borrow.Author.Tests.{ltb-true, leb-true, eqb-true}
use Rattle.rules.specs.declared.Instruction.{Instruction}
use Rattle.rules.specs.declared.Held.{Held}
use Rattle.rules.specs.Numbers.{p, heap_end, choose}
use Rattle.rules.specs.Memory.{present, numbers_of, moments_of, held_of}
use Rattle.rules.specs.Cells.{get, count, zipped, mark_cells}
use Rattle.rules.specs.Step.{is_storable}
use Rattle.rules.specs.Guarded.{content_mark, cell_mark}
use Rattle.rules.specs.Entry.{Snapshot, GuardedSnapshot, used_addresses, used_numbers, used_moments, used_marks, used_output, marked_registers, marked_cells, every, rising_from, marked_below, plain_entry, marked_numbers_below, marks_entry, guarded_entry, environment, state_of, guarded_state_of}
use Rattle.rules.specs.Soundness.{Sound, GuardedSound, EntersSound}
use Rattle.rules.proofs.Laws.BoolLaws.{false-true, and_left, and_right}
use Rattle.rules.proofs.Laws.CellLaws.{absent-present, zipped-rising, addresses-zipped, count-zipped}
use Rattle.rules.proofs.Laws.HeldLaws.{numbers-held, moments-held, length-held}
use Rattle.rules.proofs.Laws.EntryLaws.{all-at, marked_below-at, length-low_bits}

-- Cells of two buffers

zipped-in-heap : {A : Type 0} (n : ℕ) (l : List ℕ) (vs : List A) → rising_from n l ≡ true → (a : ℕ) (v : A) → get (zipped l vs) a ≡ present v
    → a < heap_end
zipped-in-heap n [] vs t a v e = absurd (absent-present v e)
zipped-in-heap n (b ∷ l) [] t a v e = absurd (absent-present v e)
zipped-in-heap n (b ∷ l) (w ∷ vs) t a v e =
    let u = and_right (leb n b) _ t in
    go (ltb-true b heap_end (and_left (ltb b heap_end) _ u)) (zipped-in-heap (suc b) l vs (and_right (ltb b heap_end) _ u) a v) (eqb b a) refl e
  where
    go : b < heap_end → (get (zipped l vs) a ≡ present v → a < heap_end) → (t : Bool) → eqb b a ≡ t
        → choose t (present w) (get (zipped l vs) a) ≡ present v → a < heap_end
    go h k true f e = subst (λ x. x < heap_end) (eqb-true b a f) h
    go h k false f e = k e

-- what holds of a part of every element of the second list
zipped-every : {A : Type 0} (f : ℕ → Bool) (part : A → ℕ) (l : List ℕ) (vs : List A) → every f (map part vs) ≡ true
    → (a : ℕ) (v : A) → get (zipped l vs) a ≡ present v → f (part v) ≡ true
zipped-every f part [] vs t a v e = absurd (absent-present v e)
zipped-every f part (b ∷ l) [] t a v e = absurd (absent-present v e)
zipped-every f part (b ∷ l) (w ∷ vs) t a v e = go (zipped-every f part l vs (and_right (f (part w)) _ t) a v) (eqb b a) e
  where
    go : (get (zipped l vs) a ≡ present v → f (part v) ≡ true) → (t : Bool) → choose t (present w) (get (zipped l vs) a) ≡ present v → f (part v) ≡ true
    go k true e = let z : w ≡ v = cc in subst (λ x. f (part x) ≡ true) z (and_left (f (part w)) _ t)
    go k false e = k e

zipped-below : (l ts : List ℕ) (hs : List Held) → marked_below (map (λ t. eqb t 1) ts) (numbers_of hs) ≡ true
    → (a : ℕ) (v : Held) → cell_mark mark_cells (zipped l ts) a ≡ true → get (zipped l hs) a ≡ present v → v.number < p
zipped-below [] ts hs h a v t e = absurd (false-true t)
zipped-below (b ∷ l) [] hs h a v t e = absurd (false-true t)
zipped-below (b ∷ l) (u ∷ ts) [] h a v t e = absurd (absent-present v e)
zipped-below (b ∷ l) (u ∷ ts) (w ∷ hs) h a v t e =
    go (zipped-below l ts hs (and_right (not (eqb u 1) || ltb w.number p) _ h) a v) (eqb b a) t e
  where
    go : (cell_mark mark_cells (zipped l ts) a ≡ true → get (zipped l hs) a ≡ present v → v.number < p) → (c : Bool)
        → content_mark mark_cells (choose c (present u) (get (zipped l ts) a)) ≡ true → choose c (present w) (get (zipped l hs) a) ≡ present v
        → v.number < p
    go k true t e =
        let z : w ≡ v = cc in
        subst (λ x. x.number < p) z (marked_below-at (map (λ t. eqb t 1) (u ∷ ts)) (numbers_of (w ∷ hs)) h 0 t)
    go k false t e = k t e

-- Used parts

pub used-short : (n : ℕ) (l : List ℕ) → length (take n l) ≤ length l
used-short n l = let e : length (take n l) ≡ min n (length l) = length-take n l in omega arith

used-lengths : (n : ℕ) (k l : List ℕ) → length k ≡ length l → length (take n k) ≡ length (take n l)
used-lengths n k l e = length-take n k ∙ ap (min n) e ∙ sym (length-take n l)

-- the numbers and moments of the used cells, as many as there are addresses
abbrev used_held : Snapshot → List Held
used_held s = held_of (used_numbers s) (used_moments s)

module _ (s : Snapshot) (t : plain_entry s ≡ true) where
  numbers-level : length (used_numbers s) ≡ length (used_addresses s)
  unfolding plain_entry
  numbers-level = used-lengths s.machine.cell_count s.numbers s.addresses (eqb-true _ _ (all-at _ t 4))

  moments-level : length (used_moments s) ≡ length (used_addresses s)
  unfolding plain_entry
  moments-level = used-lengths s.machine.cell_count s.moments s.addresses (eqb-true _ _ (all-at _ t 5))

  pub used-numbers : numbers_of (used_held s) ≡ used_numbers s
  used-numbers = numbers-held (used_numbers s) (used_moments s) (omega (arith, numbers-level, moments-level))

  used-moments : moments_of (used_held s) ≡ used_moments s
  used-moments = moments-held (used_numbers s) (used_moments s) (omega (arith, numbers-level, moments-level))

  held-level : length (used_held s) ≡ length (used_addresses s)
  held-level = length-held (used_numbers s) (used_moments s) (omega (arith, numbers-level, moments-level)) ∙ numbers-level

pub entry-sound : (program : List Instruction) (s : Snapshot) → length s.machine.registers ≡ 10 → plain_entry s ≡ true
    → Sound (environment program s) (state_of s)
unfolding plain_entry
entry-sound program s ten t =
    let r : rising_from 0 (used_addresses s) ≡ true = all-at _ t 9 in
    let u : every is_storable (used_numbers s) ≡ true = all-at _ t 10 in
    let m : every (λ n. leb n s.machine.clk) (used_moments s) ≡ true = all-at _ t 11 in
    let c : count (zipped (used_addresses s) (used_held s)) ≤ length (used_addresses s) = count-zipped (used_addresses s) (used_held s) in
    let a : length (used_addresses s) ≤ length s.addresses = used-short s.machine.cell_count s.addresses in
    record {
      ten = ten;
      cells = record {
        rising = zipped-rising (used_addresses s) (used_held s) r;
        in_heap = zipped-in-heap 0 (used_addresses s) (used_held s) r;
        storable =
            λ a v e. leb-true v.number p (zipped-every is_storable _ (used_addresses s) (used_held s) (ap (every is_storable) (used-numbers s t) ∙ u) a v e);
        not_later =
            λ a v e.
            leb-true v.moment s.machine.clk
            (zipped-every (λ n. leb n s.machine.clk) _ (used_addresses s) (used_held s) (ap (every (λ n. leb n s.machine.clk)) (used-moments s t) ∙ m) a v e);
      };
      cells_fit = omega arith;
      tape_fits = used-short s.machine.tape_count s.tape;
      output_fits = used-short s.machine.output_count s.output;
      written_fits = used-short s.machine.output_count s.output;
      first = take-length (used_output s);
    }

pub guarded-entry-sound : (program : List Instruction) (g : GuardedSnapshot) → length g.plain.machine.registers ≡ 10 → guarded_entry g ≡ true
    → GuardedSound (environment program g.plain) (guarded_state_of g)
unfolding guarded_entry marks_entry marked_numbers_below plain_entry
guarded-entry-sound program g ten t =
    let s = g.plain in
    let n = s.machine.cell_count in
    let own : plain_entry s ≡ true = all-at _ t 0 in
    let mark : marks_entry g ≡ true = all-at _ t 1 in
    let lengths : length g.marks ≡ length s.addresses = eqb-true _ _ (all-at _ mark 0) in
    let bits : every (λ t. leb t 1) (used_marks g) ≡ true = all-at _ mark 1 in
    let below : marked_numbers_below g ≡ true = all-at _ mark 3 in
    let k : length (used_marks g) ≡ length (used_addresses s) = used-lengths n g.marks s.addresses lengths in
    let l : length (used_held s) ≡ length (used_addresses s) = held-level s own in
    record {
      plain = entry-sound program s ten own;
      ten = length-low_bits 10 g.extras.registers;
      addresses = addresses-zipped (used_addresses s) (used_marks g) (omega arith) ∙ sym (addresses-zipped (used_addresses s) (used_held s) (omega arith));
      zero_or_one =
          λ a t e. leb-true t 1 (zipped-every (λ t. leb t 1) (λ t. t) (used_addresses s) (used_marks g) (ap (every (λ t. leb t 1)) (map-id (used_marks g)) ∙ bits) a t e);
      registers_below = marked_below-at (marked_registers g) s.machine.registers (all-at _ below 0);
      cells_below =
          zipped-below (used_addresses s) (used_marks g) (used_held s) (ap (marked_below (marked_cells g)) (used-numbers s own) ∙ all-at _ below 1);
    }

pub enters-sound : (program : List Instruction) → EntersSound program
enters-sound program = record { plain = entry-sound program; guarded = guarded-entry-sound program }
