-- The rules over the rising list of cells and over a plain map: from every rising start they give the same answer and steps, the same
-- registers, pc, clk, tape and output, the same number and moment at every address and as many present addresses.
use Rattle.std.specs.Prelude.{ℕ, ◌≡◌}
use Rattle.rules.specs.declared.Held.{Held}
use Rattle.rules.specs.Cells.{Cells, get, count, Rising, number_cells, mark_cells}
use Rattle.rules.specs.PlainMap.{PlainMap, number_map, mark_map}
use Rattle.rules.specs.Step as Plain
use Rattle.rules.specs.Step.{Environment, State, Next}
use Rattle.rules.specs.Guarded as Guarded
use Rattle.rules.specs.Guarded.{MarkState, GuardedState, GuardedNext}
use Rattle.rules.specs.Relations.{Both, BothGuarded, BothRan}

-- The plain map of a list of cells, and the states over it

abbrev pub map_of : {A : Type 0} → Cells A → PlainMap A
map_of c = record { at = get c; size = count c }

-- a state with a plain map for its cells
abbrev pub with_map : State number_cells → PlainMap Held → State number_map
with_map s m =
    record {
      registers = s.registers;
      pc = s.pc;
      clk = s.clk;
      cells = m;
      tape = s.tape;
      output = s.output;
      written = s.written;
    }

abbrev pub map_state : State number_cells → State number_map
map_state s = with_map s (map_of s.cells)

abbrev pub map_marks : MarkState mark_cells → MarkState mark_map
map_marks t = record { registers = t.registers; cells = map_of t.cells }

abbrev pub map_guarded_state : GuardedState number_cells mark_cells → GuardedState number_map mark_map
map_guarded_state q = record { plain = map_state q.plain; marks = map_marks q.marks }

-- Agreement

pub record SameMemory {A : Type 0} (c : Cells A) (m : PlainMap A) : Type 0 where
  pub rising : Rising c
  pub same : (a : ℕ) → get c a ≡ m.at a
  pub size : count c ≡ m.size

pub record SameState (s : State number_cells) (t : State number_map) : Type 0 where
  pub registers : s.registers ≡ t.registers
  pub pc : s.pc ≡ t.pc
  pub clk : s.clk ≡ t.clk
  pub cells : SameMemory s.cells t.cells
  pub tape : s.tape ≡ t.tape
  pub output : s.output ≡ t.output
  pub written : s.written ≡ t.written

pub record SameNext (n : Next number_cells) (m : Next number_map) : Type 0 where
  pub state : SameState n.state m.state
  pub finish : n.finish ≡ m.finish

pub record SameMarks (t : MarkState mark_cells) (u : MarkState mark_map) : Type 0 where
  pub registers : t.registers ≡ u.registers
  pub cells : SameMemory t.cells u.cells

pub record SameGuardedState (q : GuardedState number_cells mark_cells) (r : GuardedState number_map mark_map) : Type 0 where
  pub plain : SameState q.plain r.plain
  pub marks : SameMarks q.marks r.marks

pub record SameGuardedNext (n : GuardedNext number_cells mark_cells) (m : GuardedNext number_map mark_map) : Type 0 where
  pub next : SameNext n.next m.next
  pub marks : SameMarks n.marks m.marks

-- a guarded state whose two lists of cells both rise
pub record GuardedRising (q : GuardedState number_cells mark_cells) : Type 0 where
  pub plain : Rising q.plain.cells
  pub marks : Rising q.marks.cells

-- The theorem

pub record MapAgreement (e : Environment) : Type 0 where
  pub step : (s : State number_cells) → Rising s.cells → Both SameNext (Plain.step number_cells e s) (Plain.step number_map e (map_state s))
  pub run : (budget : ℕ) (s : State number_cells) → Rising s.cells
      → BothRan SameState (Plain.run number_cells e budget s) (Plain.run number_map e budget (map_state s))
  pub guarded_step : (q : GuardedState number_cells mark_cells) → GuardedRising q
      → BothGuarded SameGuardedNext (Guarded.guarded_step number_cells mark_cells e q) (Guarded.guarded_step number_map mark_map e (map_guarded_state q))
  pub guarded_run : (budget : ℕ) (q : GuardedState number_cells mark_cells) → GuardedRising q
      → BothRan SameGuardedState (Guarded.guarded_run number_cells mark_cells e budget q) (Guarded.guarded_run number_map mark_map e budget (map_guarded_state q))
