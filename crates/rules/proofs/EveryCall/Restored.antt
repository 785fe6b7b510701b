-- What is handed in, and passes entry, is what the state that it stands for leaves.
use Prim.Native.Nat.{ℕ, ◌≤◌, min}
use mathlib.Core.Path.{◌≡◌, refl, sym, ap, subst, ◌∙◌}
use mathlib.Core.Bool.{true}
use mathlib.Core.List.{List}
use native.Mathlib.Omega.{arith}
use lib.ListN.{length, take, length-take}
use borrow.Author.Tests.{ltb-true, leb-true, eqb-true}
use Rattle.rules.specs.declared.Held.{Held}
use Rattle.rules.specs.Memory.{numbers_of, moments_of, held_of}
use Rattle.rules.specs.Cells as Cells
use Rattle.rules.specs.Step.{overlay}
use Rattle.rules.specs.Entry.{Snapshot, GuardedSnapshot, used_addresses, used_numbers, used_moments, used_marks, plain_entry, marks_entry, guarded_entry, state_of, guarded_state_of, snapshot_after, guarded_snapshot_after}
use Rattle.rules.proofs.Laws.CellLaws.{length-addresses, addresses-zipped, contents-zipped}
use Rattle.rules.proofs.Laws.HeldLaws.{numbers-held, moments-held, length-held}
use Rattle.rules.proofs.Laws.OverlayLaws.{overlay-same}
use Rattle.rules.proofs.Laws.EntryLaws.{all-at, word-again}

-- the used part laid over its buffer

used-length : {A : Type 0} (n : ℕ) (l : List A) → n ≤ length l → length (take n l) ≡ n
used-length n l h = let e : length (take n l) ≡ min n (length l) = length-take n l in omega arith

used-again : {A : Type 0} (n : ℕ) (l : List A) → n ≤ length l → {k : List A} → k ≡ take n l → overlay k l ≡ l
used-again n l h e = ap (λ k. overlay k l) e ∙ overlay-same (take n l) l (ap (λ m. take m l) (used-length n l h))

module _ (s : Snapshot) (enters : plain_entry s ≡ true) where
  abbrev n : ℕ
  n = s.machine.cell_count

  cells_fit : n ≤ length s.addresses
  unfolding plain_entry
  cells_fit = leb-true _ _ (all-at _ enters 1)

  tape-fits : s.machine.tape_count ≤ length s.tape
  unfolding plain_entry
  tape-fits = leb-true _ _ (all-at _ enters 2)

  output-fits : s.machine.output_count ≤ length s.output
  unfolding plain_entry
  output-fits = leb-true _ _ (all-at _ enters 3)

  same_length : length s.numbers ≡ length s.addresses
  unfolding plain_entry
  same_length = eqb-true _ _ (all-at _ enters 4)

  moment-length : length s.moments ≡ length s.addresses
  unfolding plain_entry
  moment-length = eqb-true _ _ (all-at _ enters 5)

  as_many : (l : List ℕ) → length l ≡ length s.addresses → length (used_addresses s) ≡ length (take n l)
  as_many l e = used-length n s.addresses cells_fit ∙ sym (used-length n l (subst (λ m. n ≤ m) (sym e) cells_fit))

  -- numbers and moments, as many as there are addresses
  abbrev both : List Held
  both = held_of (used_numbers s) (used_moments s)

  level : (length (used_addresses s) ≡ length (used_numbers s)) × (length (used_addresses s) ≡ length (used_moments s))
  level = (as_many s.numbers same_length, as_many s.moments moment-length)

  both-many : length (used_addresses s) ≡ length both
  both-many = level.0 ∙ sym (length-held (used_numbers s) (used_moments s) (omega (arith, level.0, level.1)))

  addresses-again : Cells.addresses (state_of s).cells ≡ used_addresses s
  addresses-again = addresses-zipped (used_addresses s) both (omega (arith, both-many))

  numbers-again : numbers_of (Cells.contents (state_of s).cells) ≡ used_numbers s
  numbers-again =
      ap numbers_of (contents-zipped (used_addresses s) both both-many) ∙ numbers-held (used_numbers s) (used_moments s) (omega (arith, level.0, level.1))

  moments-again : moments_of (Cells.contents (state_of s).cells) ≡ used_moments s
  moments-again =
      ap moments_of (contents-zipped (used_addresses s) both both-many) ∙ moments-held (used_numbers s) (used_moments s) (omega (arith, level.0, level.1))

  -- a buffer of the cells whose used part is as it was
  pub part-again : (l : List ℕ) → length l ≡ length s.addresses → {k : List ℕ} → k ≡ take n l → overlay k l ≡ l
  part-again l e q = used-again n l (subst (λ m. n ≤ m) (sym e) cells_fit) q

  count-again : Cells.count (state_of s).cells ≡ n
  count-again = sym (length-addresses (state_of s).cells) ∙ ap length addresses-again ∙ used-length n s.addresses cells_fit

  pub restored : snapshot_after s (state_of s) ≡ s
  restored =
      λ i.
      record {
        machine = record {
          registers = s.machine.registers;
          pc = s.machine.pc;
          clk = s.machine.clk;
          psp = s.machine.psp;
          storage_addr = s.machine.storage_addr;
          cell_count = count-again i;
          tape_count = used-length s.machine.tape_count s.tape tape-fits i;
          output_count = used-length s.machine.output_count s.output output-fits i;
        };
        addresses = part-again s.addresses refl addresses-again i;
        numbers = part-again s.numbers same_length numbers-again i;
        moments = part-again s.moments moment-length moments-again i;
        tape = used-again s.machine.tape_count s.tape tape-fits refl i;
        output = used-again s.machine.output_count s.output output-fits refl i;
      }

pub guarded-restored : (g : GuardedSnapshot) → guarded_entry g ≡ true → guarded_snapshot_after g (guarded_state_of g) ≡ g
unfolding guarded_entry marks_entry
guarded-restored g enters =
    let own : plain_entry g.plain ≡ true = all-at _ enters 0 in
    let mark : marks_entry g ≡ true = all-at _ enters 1 in
    let e : length g.marks ≡ length g.plain.addresses = eqb-true _ _ (all-at _ mark 0) in
    λ i.
    record {
      plain = restored g.plain own i;
      marks = part-again g.plain own g.marks e (contents-zipped (used_addresses g.plain) (used_marks g) (as_many g.plain own g.marks e)) i;
      extras = record { registers = word-again 10 g.extras.registers (ltb-true _ _ (all-at _ mark 2)) i };
    }
