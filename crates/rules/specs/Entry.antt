-- What a caller hands in, the tests of refusal 3, and the state that it stands for. Document 01, 'Forms' and the refusal table; document 02,
-- #103.
use Rattle.std.specs.Prelude.{ℕ, zero, suc, ◌+◌, ◌*◌, ◌/◌, ◌%◌, Bool, true, not, ◌&&◌, ◌||◌, List, [], ◌∷◌, map, ltb, leb, eqb, length, take}
use Rattle.rules.specs.declared.Machine.{Machine}
use Rattle.rules.specs.declared.Marks.{Marks}
use Rattle.rules.specs.declared.Instruction.{Instruction}
use Rattle.rules.specs.Numbers.{p, heap_end, clock_end, cell_limit, value_limit, marks_end, bit}
use Rattle.rules.specs.Memory.{numbers_of, moments_of, held_of}
use Rattle.rules.specs.Cells as Cells
use Rattle.rules.specs.Cells.{number_cells, mark_cells, zipped}
use Rattle.rules.specs.Step.{Environment, State, is_storable, overlay}
use Rattle.rules.specs.Guarded.{GuardedState}

-- the machine and the buffers, whole
pub record Snapshot : Type 0 where
  pub machine : Machine
  pub addresses : List ℕ
  pub numbers : List ℕ
  pub moments : List ℕ
  pub tape : List ℕ
  pub output : List ℕ

-- for a guarded run also the cells' marks, and the registers': bit r of a word is the mark of register r
pub record GuardedSnapshot : Type 0 where
  pub plain : Snapshot
  pub marks : List ℕ
  pub extras : Marks

-- The used parts: each buffer as far as its count and its length go

abbrev pub used_addresses : Snapshot → List ℕ
used_addresses s = take s.machine.cell_count s.addresses

abbrev pub used_numbers : Snapshot → List ℕ
used_numbers s = take s.machine.cell_count s.numbers

abbrev pub used_moments : Snapshot → List ℕ
used_moments s = take s.machine.cell_count s.moments

abbrev pub used_tape : Snapshot → List ℕ
used_tape s = take s.machine.tape_count s.tape

abbrev pub used_output : Snapshot → List ℕ
used_output s = take s.machine.output_count s.output

abbrev pub used_marks : GuardedSnapshot → List ℕ
used_marks g = take g.plain.machine.cell_count g.marks

-- the n lowest bits of a word, the lowest first; and the word of bits
abbrev pub low_bits : ℕ → ℕ → List Bool
low_bits zero w = []
low_bits (suc n) w = eqb (w % 2) 1 ∷ low_bits n (w / 2)

abbrev pub word_of_bits : List Bool → ℕ
word_of_bits [] = 0
word_of_bits (b ∷ bs) = bit b + 2 * word_of_bits bs

-- the marks of R0 to R9, and of the used cells
abbrev pub marked_registers : GuardedSnapshot → List Bool
marked_registers g = low_bits 10 g.extras.registers

abbrev pub marked_cells : GuardedSnapshot → List Bool
marked_cells g = map (λ t. eqb t 1) (used_marks g)

-- Refusal 3

abbrev pub every : (ℕ → Bool) → List ℕ → Bool
every f [] = true
every f (n ∷ ns) = f n && every f ns

-- strictly rising from n on, within the heap
abbrev pub rising_from : ℕ → List ℕ → Bool
rising_from n [] = true
rising_from n (a ∷ l) = leb n a && (ltb a heap_end && rising_from (suc a) l)

-- each marked number is below p
abbrev pub marked_below : List Bool → List ℕ → Bool
marked_below [] ns = true
marked_below (t ∷ ts) [] = true
marked_below (t ∷ ts) (n ∷ ns) = (not t || ltb n p) && marked_below ts ns

-- all tests pass
unfoldable pub all : List Bool → Bool
all [] = true
all (b ∷ bs) = b && all bs

unfoldable pub plain_entry : Snapshot → Bool
plain_entry s =
    let m = s.machine in
    all
    (ltb m.clk clock_end
    ∷ leb m.cell_count (length s.addresses)
    ∷ leb m.tape_count (length s.tape)
    ∷ leb m.output_count (length s.output)
    ∷ eqb (length s.numbers) (length s.addresses)
    ∷ eqb (length s.moments) (length s.addresses)
    ∷ leb (length s.addresses) cell_limit
    ∷ leb (length s.tape) value_limit
    ∷ leb (length s.output) value_limit
    ∷ rising_from 0 (used_addresses s)
    ∷ every is_storable (used_numbers s)
    ∷ every (λ t. leb t m.clk) (used_moments s)
    ∷ [])

-- each marked number, of registers and of cells
unfoldable pub marked_numbers_below : GuardedSnapshot → Bool
marked_numbers_below g =
    all
    (marked_below (marked_registers g) g.plain.machine.registers
    ∷ marked_below (marked_cells g) (used_numbers g.plain)
    ∷ [])

-- the tests that only a guarded call has
unfoldable pub marks_entry : GuardedSnapshot → Bool
marks_entry g =
    all
    (eqb (length g.marks) (length g.plain.addresses)
    ∷ every (λ t. leb t 1) (used_marks g)
    ∷ ltb g.extras.registers marks_end
    ∷ marked_numbers_below g
    ∷ [])

unfoldable pub guarded_entry : GuardedSnapshot → Bool
guarded_entry g = all (plain_entry g.plain ∷ marks_entry g ∷ [])

-- The state that a snapshot stands for

abbrev pub environment : List Instruction → Snapshot → Environment
environment program s =
    record {
      program = program;
      psp = s.machine.psp;
      storage = s.machine.storage_addr;
      cell_capacity = length s.addresses;
      tape_capacity = length s.tape;
      output_capacity = length s.output;
    }

abbrev pub state_of : Snapshot → State number_cells
state_of s =
    record {
      registers = s.machine.registers;
      pc = s.machine.pc;
      clk = s.machine.clk;
      cells = zipped (used_addresses s) (held_of (used_numbers s) (used_moments s));
      tape = used_tape s;
      output = used_output s;
      written = used_output s;
    }

abbrev pub guarded_state_of : GuardedSnapshot → GuardedState number_cells mark_cells
guarded_state_of g =
    record {
      plain = state_of g.plain;
      marks = record { registers = marked_registers g; cells = zipped (used_addresses g.plain) (used_marks g) };
    }

-- The snapshot that a state leaves: what is used, and behind it what stood there

abbrev pub snapshot_after : Snapshot → State number_cells → Snapshot
snapshot_after s t =
    record {
      machine = record {
        registers = t.registers;
        pc = t.pc;
        clk = t.clk;
        psp = s.machine.psp;
        storage_addr = s.machine.storage_addr;
        cell_count = Cells.count t.cells;
        tape_count = length t.tape;
        output_count = length t.output;
      };
      addresses = overlay (Cells.addresses t.cells) s.addresses;
      numbers = overlay (numbers_of (Cells.contents t.cells)) s.numbers;
      moments = overlay (moments_of (Cells.contents t.cells)) s.moments;
      tape = overlay t.tape s.tape;
      output = overlay t.written s.output;
    }

abbrev pub guarded_snapshot_after : GuardedSnapshot → GuardedState number_cells mark_cells → GuardedSnapshot
guarded_snapshot_after g q =
    record {
      plain = snapshot_after g.plain q.plain;
      marks = overlay (Cells.contents q.marks.cells) g.marks;
      extras = record { registers = word_of_bits q.marks.registers };
    }
