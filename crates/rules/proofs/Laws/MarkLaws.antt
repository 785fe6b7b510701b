-- Sinks and marks look at registers and tape of the plain state, and at nothing else of it.
use Prim.Native.Nat.{◌-◌}
use mathlib.Core.Path.{◌≡◌, refl, ap}
use mathlib.Core.Bool.{false}
use lib.ListN.{get_or}
use Rattle.rules.specs.declared.Instruction.{Instruction}
use Rattle.rules.specs.Cells.{number_cells, mark_cells}
use Rattle.rules.specs.Opcodes.{Class, addition, multiplication, equality, small, complement, move, assert, range_check, jump, conditional_jump, call, return, load, store, tape_load, tape_store, contract_call, end, uncovered}
use Rattle.rules.specs.Operands.{Operands}
use Rattle.rules.specs.Step.{State, tape_values}
use Rattle.rules.specs.Guarded.{MarkState, cell_mark, marks_register, marks_cell, clean_many, read_sink, marks_after}

module _ (t : MarkState mark_cells) (c : Class) (i : Instruction) (s : State number_cells) (o : Operands) (u : State number_cells)
    (r : s.registers ≡ u.registers) (v : s.tape ≡ u.tape) where
  pub sinks-look : read_sink number_cells mark_cells t c i s o ≡ read_sink number_cells mark_cells t c i u o
  unfolding read_sink
  sinks-look = go c
    where
      go : (c : Class) → read_sink number_cells mark_cells t c i s o ≡ read_sink number_cells mark_cells t c i u o
      go addition = refl
      go multiplication = refl
      go (equality f) = refl
      go (small f) = refl
      go complement = refl
      go move = refl
      go assert = refl
      go range_check = refl
      go jump = refl
      go conditional_jump = refl
      go call = refl
      go return = ap (λ l. cell_mark mark_cells t.cells (get_or l 9 0 - 1)) r
      go load = refl
      go store = refl
      go tape_load = refl
      go tape_store = refl
      go contract_call = refl
      go end = refl
      go uncovered = refl

  pub marks-look : marks_after number_cells mark_cells t c i s o ≡ marks_after number_cells mark_cells t c i u o
  unfolding marks_after
  marks-look = go c
    where
      go : (c : Class) → marks_after number_cells mark_cells t c i s o ≡ marks_after number_cells mark_cells t c i u o
      go addition = refl
      go multiplication = refl
      go (equality f) = refl
      go (small f) = refl
      go complement = refl
      go move = refl
      go assert = refl
      go range_check = refl
      go jump = refl
      go conditional_jump = refl
      go call = ap (λ l. marks_cell mark_cells t (get_or l 9 0 - 1) false) r
      go return = ap (λ l. marks_register mark_cells t 9 (cell_mark mark_cells t.cells (get_or l 9 0 - 2))) r
      go load = refl
      go store = refl
      go tape_load = ap (λ l. record { registers = t.registers; cells = clean_many mark_cells t.cells o.dst (tape_values o.op0 o.op1 l) }) v
      go tape_store = refl
      go contract_call = refl
      go end = refl
      go uncovered = refl
