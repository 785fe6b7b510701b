-- What a call leaves can be handed in again.
use Prim.Native.Nat.{ℕ, suc, ◌^◌, ◌≤◌, ◌<◌}
use mathlib.Core.Path.{◌≡◌, refl, sym, ap, subst, ◌∙◌}
use mathlib.Core.Bool.{Bool, true}
use mathlib.Core.List.{List, map, map-id}
use native.Mathlib.Omega.{arith}
use lib.Dec.{leb, eqb}
use lib.ListN.{length, take}
use lib.Seq.{take-append-le}
use borrow.Author.Tests.{eqb-true, lt-ltb, le-leb, eq-eqb}
use Rattle.rules.specs.declared.Instruction.{Instruction}
use Rattle.rules.specs.declared.Held.{Held}
use Rattle.rules.specs.Numbers.{p, heap_end, clock_end, cell_limit, value_limit}
use Rattle.rules.specs.Memory.{present, numbers_of, moments_of, held_of}
use Rattle.rules.specs.Cells.{Cells, none, cell, get, count, addresses, contents, zipped, RisingFrom, number_cells, mark_cells}
use Rattle.rules.specs.Step.{State, is_storable, overlay}
use Rattle.rules.specs.Guarded.{GuardedState}
use Rattle.rules.specs.Entry.{Snapshot, GuardedSnapshot, low_bits, word_of_bits, used_numbers, marked_cells, every, rising_from, marked_below, plain_entry, marked_numbers_below, marks_entry, guarded_entry, environment, state_of, guarded_state_of, snapshot_after, guarded_snapshot_after}
use Rattle.rules.specs.Soundness.{Sound, GuardedSound}
use Rattle.rules.specs.Resumption.{resumed, guarded_resumed, Resumable, GuardedResumable, Resumption}
use Rattle.rules.proofs.Laws.BoolLaws.{and-true}
use Rattle.rules.proofs.Laws.CellLaws.{length-addresses, length-contents, rising-addresses, zipped-again, get-behind}
use Rattle.rules.proofs.Laws.HeldLaws.{length_part, held-again}
use Rattle.rules.proofs.Laws.OverlayLaws.{length-overlay, used-overlay, take-overlay}
use Rattle.rules.proofs.Laws.EntryLaws.{all-at, all_none, all_more, below-test, marked_below-of, low_bits-word, word_below}
use Rattle.rules.proofs.Soundness.PlainSoundness.{output-within}
use Rattle.rules.proofs.NonInterference.AlikeStates.{CellsRelated}
use Rattle.rules.proofs.Soundness.GuardedSoundness.{below, sound-beside}

-- The tests of entry, of cells that are sound

rising-test : {A : Type 0} (n : ℕ) (c : Cells A) → RisingFrom n c → ((a : ℕ) (v : A) → get c a ≡ present v → a < heap_end)
    → rising_from n (addresses c) ≡ true
rising-test n none r h = refl
rising-test n (cell b w c) r h =
    and-true (le-leb n b r.0)
    (and-true (lt-ltb b heap_end (h b w (rw (eq-eqb b b refl)))) (rising-test (suc b) c r.1 (λ a v e. h a v (get-behind b w c a v r.1 e))))

-- of a part of what each cell holds
every-test : {A : Type 0} (f : ℕ → Bool) (part : A → ℕ) (n : ℕ) (c : Cells A) → RisingFrom n c
    → ((a : ℕ) (v : A) → get c a ≡ present v → f (part v) ≡ true) → every f (map part (contents c)) ≡ true
every-test f part n none r h = refl
every-test f part n (cell b w c) r h =
    and-true (h b w (rw (eq-eqb b b refl))) (every-test f part (suc b) c r.1 (λ a v e. h a v (get-behind b w c a v r.1 e)))

marks-test : {k : Cells ℕ} {c d : Cells Held} → CellsRelated k c d → marked_below (map (λ t. eqb t 1) (contents k)) (numbers_of (contents c)) ≡ true
marks-test CellsRelated.nil = refl
marks-test (CellsRelated.cons {t = t} {v = v} h r) = and-true (below-test (eqb t 1) v.number (below h.number)) (marks-test r)

same_count : {A B : Type 0} (k : Cells A) (c : Cells B) → addresses k ≡ addresses c → count k ≡ count c
same_count k c e = sym (length-addresses k) ∙ ap length e ∙ length-addresses c

-- The plain snapshot

module _ (program : List Instruction) (s : Snapshot) (t : State number_cells) (passes : plain_entry s ≡ true) (h : Sound (environment program s) t) where
  same_length : length s.numbers ≡ length s.addresses
  unfolding plain_entry
  same_length = eqb-true _ _ (all-at _ passes 4)

  moment-length : length s.moments ≡ length s.addresses
  unfolding plain_entry
  moment-length = eqb-true _ _ (all-at _ passes 5)

  addresses-length : length (overlay (addresses t.cells) s.addresses) ≡ length s.addresses
  addresses-length =
      let l : count t.cells ≤ length s.addresses = h.cells_fit in
      length-overlay (addresses t.cells) s.addresses (omega (arith, length-addresses t.cells))

  -- a buffer of one part of what the cells hold
  part_length : (part : Held → ℕ) (l : List ℕ) → length l ≡ length s.addresses → length (overlay (map part (contents t.cells)) l) ≡ length l
  part_length part l e =
      let k : count t.cells ≤ length s.addresses = h.cells_fit in
      length-overlay (map part (contents t.cells)) l (omega (arith, length_part part t.cells))

  numbers-length : length (overlay (numbers_of (contents t.cells)) s.numbers) ≡ length s.numbers
  numbers-length = part_length _ s.numbers same_length

  moments-length : length (overlay (moments_of (contents t.cells)) s.moments) ≡ length s.moments
  moments-length = part_length _ s.moments moment-length

  tape-length : length (overlay t.tape s.tape) ≡ length s.tape
  tape-length = length-overlay t.tape s.tape h.tape_fits

  output-length : length (overlay t.written s.output) ≡ length s.output
  output-length = length-overlay t.written s.output h.written_fits

  used-addresses : take (count t.cells) (overlay (addresses t.cells) s.addresses) ≡ addresses t.cells
  used-addresses = take-overlay (addresses t.cells) s.addresses (count t.cells) (length-addresses t.cells)

  used-numbers : take (count t.cells) (overlay (numbers_of (contents t.cells)) s.numbers) ≡ numbers_of (contents t.cells)
  used-numbers = take-overlay (numbers_of (contents t.cells)) s.numbers (count t.cells) (length_part _ t.cells)

  used-moments : take (count t.cells) (overlay (moments_of (contents t.cells)) s.moments) ≡ moments_of (contents t.cells)
  used-moments = take-overlay (moments_of (contents t.cells)) s.moments (count t.cells) (length_part _ t.cells)

  used-output : take (length t.output) (overlay t.written s.output) ≡ t.output
  used-output = take-append-le (length t.output) t.written _ (output-within h) ∙ h.first

  state-again : state_of (snapshot_after s t) ≡ resumed t
  state-again =
      λ i.
      record {
        registers = t.registers;
        pc = t.pc;
        clk = t.clk;
        cells = same i;
        tape = used-overlay t.tape s.tape i;
        output = used-output i;
        written = used-output i;
      }
    where
      same : zipped (take (count t.cells) (overlay (addresses t.cells) s.addresses))
          (held_of (take (count t.cells) (overlay (numbers_of (contents t.cells)) s.numbers))
          (take (count t.cells) (overlay (moments_of (contents t.cells)) s.moments)))
          ≡ t.cells
      same = rw (used-addresses, used-numbers, used-moments, held-again (contents t.cells)) (zipped-again t.cells)

  entry-again : t.clk < clock_end → plain_entry (snapshot_after s t) ≡ true
  unfolding plain_entry
  entry-again l =
      all_more _ (lt-ltb _ _ l)
      (all_more _ (le-leb _ _ (subst (λ n. count t.cells ≤ n) (sym addresses-length) h.cells_fit))
      (all_more _ (le-leb _ _ (subst (λ n. length t.tape ≤ n) (sym tape-length) h.tape_fits))
      (all_more _ (le-leb _ _ (subst (λ n. length t.output ≤ n) (sym output-length) h.output_fits))
      (all_more _ (eq-eqb _ _ (numbers-length ∙ same_length ∙ sym addresses-length))
      (all_more _ (eq-eqb _ _ (moments-length ∙ moment-length ∙ sym addresses-length))
      (all_more _ (ap (λ n. leb n cell_limit) addresses-length ∙ all-at _ passes 6)
      (all_more _ (ap (λ n. leb n value_limit) tape-length ∙ all-at _ passes 7)
      (all_more _ (ap (λ n. leb n value_limit) output-length ∙ all-at _ passes 8)
      (all_more _ (ap (rising_from 0) used-addresses ∙ rising-test 0 t.cells h.cells.rising h.cells.in_heap)
      (all_more _ (ap (every is_storable) used-numbers ∙ every-test is_storable _ 0 t.cells h.cells.rising (λ a v e. le-leb v.number p (h.cells.storable a v e)))
      (all_more _ (ap (every (λ n. leb n t.clk)) used-moments ∙ every-test (λ n. leb n t.clk) _ 0 t.cells h.cells.rising (λ a v e. le-leb v.moment t.clk (h.cells.not_later a v e)))
      all_none)))))))))))

  pub resumable : Resumable program s t
  resumable =
      record {
        addresses = addresses-length;
        numbers = numbers-length;
        moments = moments-length;
        tape = tape-length;
        output = output-length;
        environment =
            λ i.
            record {
              program = program;
              psp = s.machine.psp;
              storage = s.machine.storage_addr;
              cell_capacity = addresses-length i;
              tape_capacity = tape-length i;
              output_capacity = output-length i;
            };
        state = state-again;
        entry = entry-again;
      }

-- The guarded snapshot

module _
    (program : List Instruction)
    (g : GuardedSnapshot)
    (q : GuardedState number_cells mark_cells)
    (passes : guarded_entry g ≡ true)
    (h : GuardedSound (environment program g.plain) q)
  where
    plain_passes : plain_entry g.plain ≡ true
    unfolding guarded_entry
    plain_passes = all-at _ passes 0

    mark-passes : marks_entry g ≡ true
    unfolding guarded_entry
    mark-passes = all-at _ passes 1

    same-marks : length g.marks ≡ length g.plain.addresses
    unfolding marks_entry
    same-marks = eqb-true _ _ (all-at _ mark-passes 0)

    counts : count q.marks.cells ≡ count q.plain.cells
    counts = same_count q.marks.cells q.plain.cells h.addresses

    contents-length : length (contents q.marks.cells) ≡ count q.plain.cells
    contents-length = length-contents q.marks.cells ∙ counts

    marks-length : length (overlay (contents q.marks.cells) g.marks) ≡ length g.marks
    marks-length =
        let l : count q.plain.cells ≤ length g.plain.addresses = h.plain.cells_fit in
        length-overlay (contents q.marks.cells) g.marks (omega (arith, contents-length, same-marks))

    used-marks : take (count q.plain.cells) (overlay (contents q.marks.cells) g.marks) ≡ contents q.marks.cells
    used-marks = take-overlay (contents q.marks.cells) g.marks (count q.plain.cells) contents-length

    bits-again : low_bits 10 (word_of_bits q.marks.registers) ≡ q.marks.registers
    bits-again = subst (λ n. low_bits n (word_of_bits q.marks.registers) ≡ q.marks.registers) h.ten (low_bits-word q.marks.registers)

    rest : Resumable program g.plain q.plain
    rest = resumable program g.plain q.plain plain_passes h.plain

    guarded-again : guarded_state_of (guarded_snapshot_after g q) ≡ guarded_resumed q
    guarded-again = λ i. record { plain = rest.state i; marks = record { registers = bits-again i; cells = same i } }
      where
        same : zipped (take (count q.plain.cells) (overlay (addresses q.plain.cells) g.plain.addresses))
            (take (count q.plain.cells) (overlay (contents q.marks.cells) g.marks))
            ≡ q.marks.cells
        same =
            rw (used-addresses program g.plain q.plain plain_passes h.plain, used-marks, ← h.addresses)
            (zipped-again q.marks.cells)

    registers-again : marked_below (low_bits 10 (word_of_bits q.marks.registers)) q.plain.registers ≡ true
    registers-again = ap (λ l. marked_below l q.plain.registers) bits-again ∙ marked_below-of q.marks.registers q.plain.registers h.registers_below

    marks-rise : RisingFrom 0 q.marks.cells
    marks-rise = rising-addresses 0 q.marks.cells q.plain.cells h.addresses h.plain.cells.rising

    cells-again : marked_below (marked_cells (guarded_snapshot_after g q)) (used_numbers (snapshot_after g.plain q.plain)) ≡ true
    cells-again = rw (used-marks, used-numbers program g.plain q.plain plain_passes h.plain) (marks-test (sound-beside h).plain.cells)

    word-again : word_of_bits q.marks.registers < 1024
    word-again = subst (λ n. word_of_bits q.marks.registers < 2 ^ n) h.ten (word_below q.marks.registers)

    guarded-entry-again : q.plain.clk < clock_end → guarded_entry (guarded_snapshot_after g q) ≡ true
    unfolding guarded_entry marks_entry marked_numbers_below
    guarded-entry-again l =
        all_more _ (rest.entry l)
        (all_more _
        (all_more _ (eq-eqb _ _ (marks-length ∙ same-marks ∙ sym rest.addresses))
        (all_more _ (ap (every (λ t. leb t 1)) used-marks ∙ ap (every (λ t. leb t 1)) (sym (map-id (contents q.marks.cells))) ∙ every-test (λ t. leb t 1) (λ t. t) 0 q.marks.cells marks-rise (λ a t e. le-leb t 1 (h.zero_or_one a t e)))
        (all_more _ (lt-ltb _ _ word-again)
        (all_more _
        (all_more _ registers-again
        (all_more _ cells-again all_none)) all_none)))) all_none)

    pub guarded-resumable : GuardedResumable program g q
    guarded-resumable = record { plain = rest; marks = marks-length; state = guarded-again; entry = guarded-entry-again }

pub resumption : (program : List Instruction) → Resumption program
resumption program = record { plain = resumable program; guarded = guarded-resumable program }
