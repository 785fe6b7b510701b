-- Alike snapshots: the states that they stand for are related, and related states leave alike snapshots.
use Prim.Native.Nat.{ℕ, zero, suc, ◌+◌, ◌≤◌, ◌<◌, min}
use mathlib.Core.Path.{◌≡◌, refl, sym, ap, subst, subst₂, ◌∙◌}
use mathlib.Core.Bool.{Bool, true, false}
use mathlib.Core.List.{List, [], ◌∷◌, map}
use native.Mathlib.Omega.{arith}
use lib.Dec.{leb, eqb}
use lib.ListN.{length, get_or, take, drop, length-append, length-take, length-drop}
use lib.Seq.{take-append-le}
use borrow.Author.Tests.{eqb-true}
use Rattle.rules.specs.declared.Held.{Held}
use Rattle.rules.specs.Numbers.{p}
use Rattle.rules.specs.Memory.{numbers_of, moments_of, held_of}
use Rattle.rules.specs.Cells as Cells
use Rattle.rules.specs.Cells.{Cells, zipped, count, number_cells, mark_cells}
use Rattle.rules.specs.Step.{State, is_storable, overlay}
use Rattle.rules.specs.Guarded.{MarkState}
use Rattle.rules.specs.Entry.{GuardedSnapshot, used_addresses, used_numbers, used_moments, used_marks, low_bits, word_of_bits, marked_registers, marked_cells, every, rising_from, all, plain_entry, marked_numbers_below, marks_entry, guarded_entry, state_of, guarded_state_of, guarded_snapshot_after}
use Rattle.rules.specs.NonInterference.{MarkedBelow, EqualUnless, Agree, Alike}
use Rattle.rules.proofs.Laws.BoolLaws.{and-equal}
use Rattle.rules.proofs.Laws.CellLaws.{length-addresses, length-contents}
use Rattle.rules.proofs.Laws.HeldLaws.{length-map}
use Rattle.rules.proofs.Laws.EntryLaws.{all-at, marked_below-of, low_bits-word}
use Rattle.rules.proofs.Laws.OverlayLaws.{used-overlay, take-overlay}
use Rattle.rules.proofs.NonInterference.AlikeStates.{Related, equal, hidden, RegistersRelated, CellsRelated, StatesRelated, related-storable, registers-get, cells_count}

-- Alike, and each marked number below p
abbrev Close : GuardedSnapshot → GuardedSnapshot → Type 0
Close g h = Agree Related g h

relate : (b : Bool) {v w : ℕ} → EqualUnless b v w → (b ≡ true → v < p) → (b ≡ true → w < p) → Related b v w
relate true e h k = hidden (h refl) (k refl)
relate false e h k = equal e

unrelate : {b : Bool} {v w : ℕ} → Related b v w → EqualUnless b v w
unrelate (hidden h k) = tt
unrelate (equal h) = h

same-marked_cells : {R : Bool → ℕ → ℕ → Type 0} {g h : GuardedSnapshot} → Agree R g h → marked_cells g ≡ marked_cells h
same-marked_cells al = ap (map (λ t. eqb t 1)) al.marks

same-marked_registers : {R : Bool → ℕ → ℕ → Type 0} {g h : GuardedSnapshot} → Agree R g h → marked_registers g ≡ marked_registers h
same-marked_registers al = ap (low_bits 10) al.register_marks

-- the same agreement, with other relations of numbers
agree-by : {R S : Bool → ℕ → ℕ → Type 0} {g h : GuardedSnapshot} → Agree R g h
    → ((i : ℕ) → S (get_or (marked_cells g) i false) (get_or (used_numbers g.plain) i 0) (get_or (used_numbers h.plain) i 0))
    → ((r : ℕ) → S (get_or (marked_registers g) r false) (get_or g.plain.machine.registers r 0) (get_or h.plain.machine.registers r 0))
    → Agree S g h
agree-by al n r =
    record {
      pc = al.pc;
      clk = al.clk;
      psp = al.psp;
      storage = al.storage;
      cell_count = al.cell_count;
      tape_count = al.tape_count;
      output_count = al.output_count;
      address_length = al.address_length;
      number_length = al.number_length;
      moment_length = al.moment_length;
      mark_length = al.mark_length;
      tape_length = al.tape_length;
      output_length = al.output_length;
      addresses = al.addresses;
      moments = al.moments;
      marks = al.marks;
      tape = al.tape;
      output = al.output;
      numbers = n;
      register_marks = al.register_marks;
      ten = al.ten;
      registers = r;
    }

pub close : {g h : GuardedSnapshot} → Alike g h → MarkedBelow g → MarkedBelow h → Close g h
close {g} {h} al b c =
    agree-by al
    (λ i. relate (get_or (marked_cells g) i false) (al.numbers i) (b.cells i)
    (λ e. c.cells i (ap (λ (l : List Bool). get_or l i false) (sym (same-marked_cells al)) ∙ e)))
    (λ r. relate (get_or (marked_registers g) r false) (al.registers r) (b.registers r)
    (λ e. c.registers r (ap (λ (l : List Bool). get_or l r false) (sym (same-marked_registers al)) ∙ e)))

-- Entry

marked-below : (g : GuardedSnapshot) → MarkedBelow g → marked_numbers_below g ≡ true
unfolding marked_numbers_below all
marked-below g b =
    let x = marked_below-of (marked_registers g) g.plain.machine.registers b.registers in
    let y = marked_below-of (marked_cells g) (used_numbers g.plain) b.cells in
    rw (x, y)

suc-injective : {a b : ℕ} → suc a ≡ suc b → a ≡ b
suc-injective h = omega arith

abbrev Places : List Bool → List ℕ → List ℕ → Type 0
Places l v w = (i : ℕ) → Related (get_or l i false) (get_or v i 0) (get_or w i 0)

abbrev rest : List Bool → List Bool
rest [] = []
rest (b ∷ l) = l

rest-places : (l : List Bool) (x y : ℕ) (v w : List ℕ) → Places l (x ∷ v) (y ∷ w) → Places (rest l) v w
rest-places [] x y v w h i = h (suc i)
rest-places (b ∷ l) x y v w h i = h (suc i)

every-storable : (l : List Bool) (v w : List ℕ) → length v ≡ length w → Places l v w → every is_storable v ≡ every is_storable w
every-storable l [] [] e h = refl
every-storable l [] (y ∷ w) e h = absurd (omega arith)
every-storable l (x ∷ v) [] e h = absurd (omega arith)
every-storable l (x ∷ v) (y ∷ w) e h = and-equal (related-storable (h 0)) (every-storable (rest l) v w (suc-injective e) (rest-places l x y v w h))

same-used : {R : Bool → ℕ → ℕ → Type 0} {g h : GuardedSnapshot} → Agree R g h → length (used_numbers g.plain) ≡ length (used_numbers h.plain)
same-used {g = g} {h} al =
    length-take g.plain.machine.cell_count g.plain.numbers
    ∙ (let a = al.cell_count in let b = al.number_length in cc)
    ∙ sym (length-take h.plain.machine.cell_count h.plain.numbers)

plain_entry-same : (g h : GuardedSnapshot) → Close g h → plain_entry g.plain ≡ plain_entry h.plain
unfolding plain_entry
plain_entry-same g h al =
    let r : rising_from 0 (used_addresses g.plain) ≡ rising_from 0 (used_addresses h.plain) = ap (rising_from 0) al.addresses in
    let n : every is_storable (used_numbers g.plain) ≡ every is_storable (used_numbers h.plain) =
    every-storable (marked_cells g) (used_numbers g.plain) (used_numbers h.plain) (same-used al) al.numbers in
    let m : every (λ t. leb t g.plain.machine.clk) (used_moments g.plain) ≡ every (λ t. leb t h.plain.machine.clk) (used_moments h.plain) =
    λ j. every (λ t. leb t (al.clk j)) (al.moments j) in
    cc

pub guarded_entry-same : (g h : GuardedSnapshot) → Close g h → MarkedBelow g → MarkedBelow h → guarded_entry g ≡ guarded_entry h
unfolding guarded_entry marks_entry
guarded_entry-same g h al b c =
    let e : plain_entry g.plain ≡ plain_entry h.plain = plain_entry-same g h al in
    let m : every (λ t. leb t 1) (used_marks g) ≡ every (λ t. leb t 1) (used_marks h) = ap (every (λ t. leb t 1)) al.marks in
    let x : marked_numbers_below g ≡ true = marked-below g b in
    let y : marked_numbers_below h ≡ true = marked-below h c in
    cc

-- The states

registers-related : (l : List Bool) (v w : List ℕ) → length l ≡ length v → length l ≡ length w → Places l v w → RegistersRelated l v w
registers-related [] [] [] d e h = RegistersRelated.nil
registers-related [] [] (y ∷ w) d e h = absurd (omega arith)
registers-related [] (x ∷ v) w d e h = absurd (omega arith)
registers-related (b ∷ l) [] w d e h = absurd (omega arith)
registers-related (b ∷ l) (x ∷ v) [] d e h = absurd (omega arith)
registers-related (b ∷ l) (x ∷ v) (y ∷ w) d e h =
    RegistersRelated.cons (h 0) (registers-related l v w (suc-injective d) (suc-injective e) (λ i. h (suc i)))

-- the moments are one list for both
cells-related : (a t v w m : List ℕ) → length a ≡ length t → length a ≡ length v → length a ≡ length w → length a ≡ length m
    → Places (map (λ t. eqb t 1) t) v w → CellsRelated (zipped a t) (zipped a (held_of v m)) (zipped a (held_of w m))
cells-related [] t v w m b c d e h = CellsRelated.nil
cells-related (x ∷ a) [] v w m b c d e h = absurd (omega arith)
cells-related (x ∷ a) (k ∷ t) [] w m b c d e h = absurd (omega arith)
cells-related (x ∷ a) (k ∷ t) (y ∷ v) [] m b c d e h = absurd (omega arith)
cells-related (x ∷ a) (k ∷ t) (y ∷ v) (z ∷ w) [] b c d e h = absurd (omega arith)
cells-related (x ∷ a) (k ∷ t) (y ∷ v) (z ∷ w) (o ∷ m) b c d e h =
    CellsRelated.cons (record { number = h 0; moment = refl })
    (cells-related a t v w m (suc-injective b) (suc-injective c) (suc-injective d) (suc-injective e) (λ i. h (suc i)))

same-take : (n : ℕ) (a b : List ℕ) → length a ≡ length b → length (take n a) ≡ length (take n b)
same-take n a b e = length-take n a ∙ ap (min n) e ∙ sym (length-take n b)

numbers-length : (g : GuardedSnapshot) → guarded_entry g ≡ true → length g.plain.numbers ≡ length g.plain.addresses
unfolding guarded_entry plain_entry
numbers-length g t = eqb-true _ _ (all-at _ (all-at _ t 0) 4)

moments-length : (g : GuardedSnapshot) → guarded_entry g ≡ true → length g.plain.moments ≡ length g.plain.addresses
unfolding guarded_entry plain_entry
moments-length g t = eqb-true _ _ (all-at _ (all-at _ t 0) 5)

marks-length : (g : GuardedSnapshot) → guarded_entry g ≡ true → length g.marks ≡ length g.plain.addresses
unfolding guarded_entry marks_entry
marks-length g t = eqb-true _ _ (all-at _ (all-at _ t 1) 0)

pub states-related : (g h : GuardedSnapshot) → Close g h → guarded_entry g ≡ true
    → StatesRelated (guarded_state_of g).marks (state_of g.plain) (state_of h.plain)
states-related g h al t =
    let n = numbers-length g t in
    let m = marks-length g t in
    let c = g.plain.machine.cell_count in
    record {
      registers =
          registers-related (marked_registers g) g.plain.machine.registers h.plain.machine.registers
          (sym al.ten.0) (sym al.ten.1) al.registers;
      pc = al.pc;
      clk = al.clk;
      cells =
          subst₂
          (λ a k. CellsRelated (zipped (used_addresses g.plain) (used_marks g)) (state_of g.plain).cells (zipped a (held_of (used_numbers h.plain) k)))
          al.addresses
          al.moments
          (cells-related (used_addresses g.plain) (used_marks g) (used_numbers g.plain) (used_numbers h.plain) (used_moments g.plain)
          (same-take c g.plain.addresses g.marks (sym m))
          (same-take c g.plain.addresses g.plain.numbers (sym n))
          (same-take c g.plain.addresses g.plain.numbers (sym n) ∙ same-used al)
          (same-take c g.plain.addresses g.plain.moments (sym (moments-length g t)))
          al.numbers);
      tape = al.tape;
      output = al.output;
      written = al.output;
      within = omega arith;
      ten = refl;
    }

-- What they leave

related-addresses : {k : Cells ℕ} {c d : Cells Held} → CellsRelated k c d → Cells.addresses c ≡ Cells.addresses d
related-addresses CellsRelated.nil = refl
related-addresses (CellsRelated.cons {a = a} h t) = ap (λ l. a ∷ l) (related-addresses t)

related-marks : {k : Cells ℕ} {c d : Cells Held} → CellsRelated k c d → length (Cells.contents k) ≡ count c
related-marks CellsRelated.nil = refl
related-marks (CellsRelated.cons h t) = ap suc (related-marks t)

related-moments : {k : Cells ℕ} {c d : Cells Held} → CellsRelated k c d → moments_of (Cells.contents c) ≡ moments_of (Cells.contents d)
related-moments CellsRelated.nil = refl
related-moments (CellsRelated.cons h t) = let a = h.moment in let b = related-moments t in cc

related-places : {k : Cells ℕ} {c d : Cells Held} → CellsRelated k c d
    → Places (map (λ t. eqb t 1) (Cells.contents k)) (numbers_of (Cells.contents c)) (numbers_of (Cells.contents d))
related-places CellsRelated.nil i = equal refl
related-places (CellsRelated.cons h t) zero = h.number
related-places (CellsRelated.cons h t) (suc i) = related-places t i

-- of one part of what the cells hold
part_length : (f : Held → ℕ) (c : Cells Held) → length (map f (Cells.contents c)) ≡ count c
part_length f c = length-map f (Cells.contents c) ∙ length-contents c

left-length : {l : List Bool} {v w : List ℕ} → RegistersRelated l v w → length v ≡ length l
left-length RegistersRelated.nil = refl
left-length (RegistersRelated.cons h t) = ap suc (left-length t)

right-length : {l : List Bool} {v w : List ℕ} → RegistersRelated l v w → length w ≡ length l
right-length RegistersRelated.nil = refl
right-length (RegistersRelated.cons h t) = ap suc (right-length t)

overlay-lengths : (u v a b : List ℕ) → length u ≡ length v → length a ≡ length b → length (overlay u a) ≡ length (overlay v b)
overlay-lengths u v a b d e =
    length-append u (drop (length u) a) ∙ ap (λ n. length u + n) (length-drop (length u) a)
    ∙ (omega arith)
    ∙ sym (length-append v (drop (length v) b) ∙ ap (λ n. length v + n) (length-drop (length v) b))

-- the used output, which may be shorter than what was written
output-same : (o u x y : List ℕ) (w z : List ℕ) → o ≡ u → w ≡ z → length o ≤ length w
    → take (length o) (overlay w x) ≡ take (length u) (overlay z y)
output-same o u x y w z d e l =
    take-append-le (length o) w (drop (length w) x) l
    ∙ (cc)
    ∙ sym (take-append-le (length u) z (drop (length z) y) (let a : length o ≡ length u = ap length d in let b : length w ≡ length z = ap length e in omega arith))

pub snapshots-left : (g h : GuardedSnapshot) → Alike g h → (t : MarkState mark_cells) (s u : State number_cells) → StatesRelated t s u
    → Alike (guarded_snapshot_after g (record { plain = s; marks = t })) (guarded_snapshot_after h (record { plain = u; marks = t }))
snapshots-left g h al t s u n =
    let counts : count s.cells ≡ count u.cells = cells_count n.cells in
    let ga : take (count s.cells) (overlay (Cells.addresses s.cells) g.plain.addresses) ≡ Cells.addresses s.cells = take-overlay _ _ _ (length-addresses s.cells) in
    let ha : take (count u.cells) (overlay (Cells.addresses u.cells) h.plain.addresses) ≡ Cells.addresses u.cells = take-overlay _ _ _ (length-addresses u.cells) in
    let gt : take (count s.cells) (overlay (Cells.contents t.cells) g.marks) ≡ Cells.contents t.cells = take-overlay _ _ _ (related-marks n.cells) in
    let ht : take (count u.cells) (overlay (Cells.contents t.cells) h.marks) ≡ Cells.contents t.cells = take-overlay _ _ _ (related-marks n.cells ∙ counts) in
    let gn : take (count s.cells) (overlay (numbers_of (Cells.contents s.cells)) g.plain.numbers) ≡ numbers_of (Cells.contents s.cells) = take-overlay _ _ _ (part_length (λ h. h.number) s.cells) in
    let hn : take (count u.cells) (overlay (numbers_of (Cells.contents u.cells)) h.plain.numbers) ≡ numbers_of (Cells.contents u.cells) = take-overlay _ _ _ (part_length (λ h. h.number) u.cells) in
    let gm : take (count s.cells) (overlay (moments_of (Cells.contents s.cells)) g.plain.moments) ≡ moments_of (Cells.contents s.cells) = take-overlay _ _ _ (part_length (λ h. h.moment) s.cells) in
    let hm : take (count u.cells) (overlay (moments_of (Cells.contents u.cells)) h.plain.moments) ≡ moments_of (Cells.contents u.cells) = take-overlay _ _ _ (part_length (λ h. h.moment) u.cells) in
    record {
      pc = n.pc;
      clk = n.clk;
      psp = al.psp;
      storage = al.storage;
      cell_count = counts;
      tape_count = ap length n.tape;
      output_count = ap length n.output;
      address_length =
          overlay-lengths (Cells.addresses s.cells) (Cells.addresses u.cells) g.plain.addresses h.plain.addresses
          (ap length (related-addresses n.cells)) al.address_length;
      number_length =
          overlay-lengths (numbers_of (Cells.contents s.cells)) (numbers_of (Cells.contents u.cells)) g.plain.numbers h.plain.numbers
          (part_length (λ h. h.number) s.cells ∙ counts ∙ sym (part_length (λ h. h.number) u.cells)) al.number_length;
      moment_length =
          overlay-lengths (moments_of (Cells.contents s.cells)) (moments_of (Cells.contents u.cells)) g.plain.moments h.plain.moments
          (ap length (related-moments n.cells)) al.moment_length;
      mark_length = overlay-lengths (Cells.contents t.cells) (Cells.contents t.cells) g.marks h.marks refl al.mark_length;
      tape_length = overlay-lengths s.tape u.tape g.plain.tape h.plain.tape (ap length n.tape) al.tape_length;
      output_length = overlay-lengths s.written u.written g.plain.output h.plain.output (ap length n.written) al.output_length;
      addresses = ga ∙ related-addresses n.cells ∙ sym ha;
      moments = gm ∙ related-moments n.cells ∙ sym hm;
      marks = gt ∙ sym ht;
      tape = used-overlay s.tape g.plain.tape ∙ n.tape ∙ sym (used-overlay u.tape h.plain.tape);
      output = output-same s.output u.output g.plain.output h.plain.output s.written u.written n.output n.written n.within;
      numbers = λ i. rw (gt, gn, hn) (unrelate (related-places n.cells i));
      register_marks = refl;
      ten = (left-length n.registers ∙ n.ten, right-length n.registers ∙ n.ten);
      registers = λ r. subst (λ l. EqualUnless (get_or l r false) (get_or s.registers r 0) (get_or u.registers r 0)) (sym bits) (unrelate (registers-get n.registers r));
    }
  where
    bits : low_bits 10 (word_of_bits t.registers) ≡ t.registers
    bits = subst (λ k. low_bits k (word_of_bits t.registers) ≡ t.registers) n.ten (low_bits-word t.registers)
