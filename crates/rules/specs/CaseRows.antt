-- How the tables of cases are written: where a call starts, and a row: what the rules give beside what the papers say.
use Rattle.std.specs.Prelude.{ℕ, ◌+◌, ◌^◌, ◌≡◌, List, [], ◌∷◌, ◌++◌, map, length, get_or, set, replicate}
use Rattle.rules.specs.declared.OlaOpcode.{OlaOpcode}
use Rattle.rules.specs.Numbers.{default_psp, bit}
use Rattle.rules.specs.Memory.{Content, absent, present}
use Rattle.rules.specs.Cells as Cells
use Rattle.rules.specs.Guarded.{register_mark}
use Rattle.rules.specs.Answers.{Meaning, outcome, refusal}
use Rattle.rules.specs.Entry.{Snapshot, GuardedSnapshot, state_of, marked_registers, guarded_state_of}
use Rattle.rules.specs.Calls.{Called, plain_words, guarded_words}

-- Where a call starts

-- a present cell
pub record PresentCell : Type 0 where
  pub address : ℕ
  pub number : ℕ
  pub moment : ℕ
  pub mark : ℕ

-- how many cells, tape values and output values more fit
pub record Free : Type 0 where
  pub cells : ℕ
  pub tape : ℕ
  pub output : ℕ

-- R0 to R9 and the word of their marks, the present cells, the tape, clk, PSP, and what is free
pub record Start : Type 0 where
  pub registers : List ℕ
  pub marks : ℕ
  pub cells : List PresentCell
  pub tape : List ℕ
  pub clk : ℕ
  pub psp : ℕ
  pub free : Free

abbrev from : List ℕ → ℕ → List PresentCell → List ℕ → ℕ → ℕ → Free → Start
from rs ts cs vs n psp f = record { registers = rs; marks = ts; cells = cs; tape = vs; clk = n; psp = psp; free = f }

-- R0 is 7, so that a result of 0 shows; all else is 0 and empty, but for PSP
abbrev pub start : Start
start = from (7 ∷ replicate 9 0) 0 [] [] 0 default_psp (record { cells = 4; tape = 12; output = 4 })

-- register r holds n, unmarked or marked
abbrev pub with_r : ℕ → ℕ → Start → Start
with_r r n s = from (set s.registers r n) s.marks s.cells s.tape s.clk s.psp s.free

abbrev pub with_marked_r : ℕ → ℕ → Start → Start
with_marked_r r n s = from (set s.registers r n) (s.marks + 2 ^ r) s.cells s.tape s.clk s.psp s.free

-- one more present cell, before those of s
abbrev pub with_present : PresentCell → Start → Start
with_present k s = from s.registers s.marks (k ∷ s.cells) s.tape s.clk s.psp s.free

-- its address, number and moment; unmarked or marked
abbrev pub with_held : ℕ → ℕ → ℕ → Start → Start
with_held a n m s = with_present (record { address = a; number = n; moment = m; mark = 0 }) s

abbrev pub with_marked_held : ℕ → ℕ → ℕ → Start → Start
with_marked_held a n m s = with_present (record { address = a; number = n; moment = m; mark = 1 }) s

-- the same at moment 0
abbrev pub with_cell : ℕ → ℕ → Start → Start
with_cell a n s = with_held a n 0 s

abbrev pub with_marked_cell : ℕ → ℕ → Start → Start
with_marked_cell a n s = with_marked_held a n 0 s

abbrev pub with_tape : List ℕ → Start → Start
with_tape vs s = from s.registers s.marks s.cells vs s.clk s.psp s.free

abbrev pub with_clk : ℕ → Start → Start
with_clk n s = from s.registers s.marks s.cells s.tape n s.psp s.free

abbrev pub with_psp : ℕ → Start → Start
with_psp n s = from s.registers s.marks s.cells s.tape s.clk n s.free

-- so many more cells, tape values and output values fit
abbrev pub with_free : ℕ → ℕ → ℕ → Start → Start
with_free c t o s = from s.registers s.marks s.cells s.tape s.clk s.psp (record { cells = c; tape = t; output = o })

-- nothing more fits
abbrev pub full : Start → Start
full s = with_free 0 0 0 s

-- cells 0 to 3 are present
abbrev pub four_cells : Start → Start
four_cells s = with_cell 0 5 (with_cell 1 6 (with_cell 2 7 (with_cell 3 8 s)))

-- what is handed in
abbrev pub guarded_start_snapshot : Start → GuardedSnapshot
guarded_start_snapshot s =
    record {
      plain = record {
        machine = record {
          registers = s.registers;
          pc = 0;
          clk = s.clk;
          psp = s.psp;
          storage_addr = 0x11 ∷ 0x22 ∷ 0x33 ∷ 0x44 ∷ [];
          cell_count = length s.cells;
          tape_count = length s.tape;
          output_count = 0;
        };
        addresses = map (λ k. k.address) s.cells ++ replicate s.free.cells 0;
        numbers = map (λ k. k.number) s.cells ++ replicate s.free.cells 0;
        moments = map (λ k. k.moment) s.cells ++ replicate s.free.cells 0;
        tape = s.tape ++ replicate s.free.tape 0;
        output = replicate s.free.output 0;
      };
      marks = map (λ k. k.mark) s.cells ++ replicate s.free.cells 0;
      extras = record { registers = s.marks };
    }

abbrev pub start_snapshot : Start → Snapshot
start_snapshot s = (guarded_start_snapshot s).plain

-- A row

-- an answer, the steps, and the numbers that a row is about
pub record Shown : Type 0 where
  pub answer : Meaning
  pub steps : ℕ
  pub about : List ℕ

pub record Row : Type 0 where
  pub rules : Shown
  pub paper : Shown

abbrev pub row : {S : Type 0} → Called S → (S → List ℕ) → Meaning → ℕ → List ℕ → Row
row c look answer steps about =
    record {
      rules = record { answer = c.answer; steps = c.steps; about = look c.left };
      paper = record { answer = answer; steps = steps; about = about };
    }

-- a table holds: in each row the rules give what the papers say
abbrev pub Hold : List Row → Type 0
Hold rows = map (λ r. r.rules) rows ≡ map (λ r. r.paper) rows

-- a plain or a guarded call of bare words: its budget, its words, its start
abbrev pub plain : ℕ → List ℕ → Start → Called Snapshot
plain budget words s = plain_words words budget (start_snapshot s)

abbrev pub guarded : ℕ → List ℕ → Start → Called GuardedSnapshot
guarded budget words s = guarded_words words budget (guarded_start_snapshot s)

-- outcomes that carry nothing, and refusals; 2 carries the number of a malformed frame
abbrev pub e0 : Meaning
e0 = outcome 0 []

abbrev pub e3 : Meaning
e3 = outcome 3 []

abbrev pub refused_by : ℕ → Meaning
refused_by n = refusal n []

abbrev pub malformed : ℕ → Meaning
malformed n = refusal 2 (n ∷ [])

-- What is looked at after a call: nothing; a register's number; a cell's number, and its number and moment, where it is present; how many
-- are; clk

abbrev pub nothing : {S : Type 0} → S → List ℕ
nothing s = []

abbrev pub register_at : ℕ → Snapshot → List ℕ
register_at r s = get_or s.machine.registers r 0 ∷ []

abbrev shown : {A : Type 0} → (A → List ℕ) → Content A → List ℕ
shown f absent = []
shown f (present v) = f v

abbrev pub cell_at : ℕ → Snapshot → List ℕ
cell_at a s = shown (λ h. h.number ∷ []) (Cells.get (state_of s).cells a)

abbrev pub held_at : ℕ → Snapshot → List ℕ
held_at a s = shown (λ h. h.number ∷ h.moment ∷ []) (Cells.get (state_of s).cells a)

abbrev pub cell_count : Snapshot → List ℕ
cell_count s = s.machine.cell_count ∷ []

abbrev pub clk_of : Snapshot → List ℕ
clk_of s = s.machine.clk ∷ []

-- a register's number and its mark, a cell's likewise
abbrev pub marked_register_at : ℕ → GuardedSnapshot → List ℕ
marked_register_at r g = register_at r g.plain ++ (bit (register_mark (marked_registers g) r) ∷ [])

abbrev pub marked_cell_at : ℕ → GuardedSnapshot → List ℕ
marked_cell_at a g = cell_at a g.plain ++ shown (λ t. t ∷ []) (Cells.get (guarded_state_of g).marks.cells a)

-- Two refusals that meet

-- a call in which the conditions of two refusals hold, and that call with the first one mended: the answers, and no step is done
pub record Pair : Type 0 where
  pub both : Row
  pub mended : Row

abbrev pub pair_of : {S T : Type 0} → Meaning → Called S → Meaning → Called T → Pair
pair_of m c n d = record { both = row c nothing m 0 []; mended = row d nothing n 0 [] }

abbrev pub pair : {S T : Type 0} → ℕ → Called S → ℕ → Called T → Pair
pair m c n d = pair_of (refused_by m) c (refused_by n) d

-- one plain step: two programs from one start; one program from two starts
abbrev pub in_step : Start → ℕ → List ℕ → ℕ → List ℕ → Pair
in_step s m words n words' = pair m (plain 1 words s) n (plain 1 words' s)

abbrev pub from_two : List ℕ → ℕ → Start → ℕ → Start → Pair
from_two words m s n s' = pair m (plain 1 words s) n (plain 1 words s')

-- one guarded step: two programs from one start
abbrev pub in_guarded_step : Start → ℕ → List ℕ → ℕ → List ℕ → Pair
in_guarded_step s m words n words' = pair m (guarded 1 words s) n (guarded 1 words' s)

-- refusal 18 before another: a guarded step, and the plain step of the same
abbrev pub sink_before : ℕ → List ℕ → Start → Pair
sink_before n words s = pair 18 (guarded 1 words s) n (plain 1 words s)

abbrev pub rows_of : List Pair → List Row
rows_of [] = []
rows_of (q ∷ qs) = q.both ∷ (q.mended ∷ rows_of qs)

-- the same pairs for each of some opcodes
abbrev pub for_each : List OlaOpcode → (OlaOpcode → List Pair) → List Pair
for_each [] f = []
for_each (o ∷ os) f = f o ++ for_each os f
