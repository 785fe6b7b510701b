-- What is seen of a step before it is made.
use Rattle.std.specs.Prelude.{ℕ, ◌-◌, ◌<◌, ◌≡◌, Bool, false, not, ◌&&◌, ◌||◌, List, ltb, get_or, Option, Some, None}
use Rattle.rules.specs.declared.Instruction.{Instruction}
use Rattle.rules.specs.declared.OlaOpcode.{OlaOpcode}
use Rattle.rules.specs.Results.{pass}
use Rattle.rules.specs.Opcodes.{class_of}
use Rattle.rules.specs.Cells.{number_cells}
use Rattle.rules.specs.Step.{Next, step}
use Rattle.rules.specs.Entry.{Snapshot, environment, state_of}
use Rattle.sheets.specs.Lines.{present_of, shown, line_words}
use Rattle.sheets.specs.Traced.{reads_further}
use Rattle.sheets.specs.StepBeside.{meets_unread, line_here}
use Rattle.hardware.specs.Buffers.{has}
use Rattle.program.specs.declared.table.Row.{Row}
use Rattle.looking.specs.declared.Sight.{Sight}

abbrev pub no_sight : Sight
no_sight = record { unread = false; present = record { op0 = false; op1 = false; dst = false }; op0 = 0; op1 = 0; dst = 0 }

-- is the cell at R9 - 2 absent, by the addresses of those that are there?
abbrev pub absent_below : List ℕ → ℕ → Bool
absent_below l r9 = ltb r9 2 || not (has l (r9 - 2))

-- what is seen of an opcode, by a row whose operands stand at their slots, and whether CALL's further cell is absent
abbrev pub sight_by : Option OlaOpcode → Row → Bool → List ℕ → Sight
sight_by None row absent values = no_sight
sight_by (Some k) row absent values =
    let w = present_of (class_of k) in
    record {
      unread = reads_further (class_of k) && absent;
      present = w;
      op0 = get_or values row.op0 0;
      op1 = get_or values row.op1 0;
      dst = shown w.dst row.dst;
    }

abbrev pub sight_of : Row → Bool → List ℕ → Sight
sight_of row absent values = sight_by row.opcode row absent values

-- of the step from a snapshot: whether CALL's further read fails, and, where the step is accepted, its line
pub record Looks (program : List Instruction) (s : Snapshot) (r : Sight) : Type 0 where
  pub unread : r.unread ≡ meets_unread number_cells (environment program s) (state_of s)
  pub line : (n : Next number_cells) → step number_cells (environment program s) (state_of s) ≡ pass n
      → (r.dst < 10)
      × (line_here number_cells (environment program s) (state_of s) n
      ≡ line_words s.machine.clk s.machine.pc s.machine.registers r.present r.op0 r.op1
      (get_or n.state.registers r.dst 0))
