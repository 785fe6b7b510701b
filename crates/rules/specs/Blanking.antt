-- Blanking with zero, for a setter to rely on: document 02, #108, of every accepted MUL and of every factor operand.
use Rattle.std.specs.Prelude.{ℕ, ◌≡◌, Bool, true, false, List, ◌↔◌, length, get_or}
use Rattle.rules.specs.declared.OlaOpcode.TheVariants as O
use Rattle.rules.specs.declared.OlaOperand.TheVariants.{RegisterWithFactor}
use Rattle.rules.specs.declared.Instruction.{Instruction}
use Rattle.rules.specs.Results.{pass, passes}
use Rattle.rules.specs.Cells.{number_cells, mark_cells}
use Rattle.rules.specs.Operands.{value_of, Operands}
use Rattle.rules.specs.Step.{Environment}
use Rattle.rules.specs.Guarded.{register_mark, operand_mark, product_mark, GuardedState, GuardedNext, guarded_step}
use Rattle.rules.specs.LoadedRegisters.{AllInRange}
use Rattle.rules.specs.MarkRules.{register, Marking, marking_of, OperandMarked, Blanked}
use Rattle.rules.specs.SinkRules.{InstructionRead}

-- an operand of a MUL is marked
pub data AnyMarked (t : Marking) (i : Instruction) : Type 0 where
  op0 : OperandMarked t i.op0 true → AnyMarked t i
  op1 : OperandMarked t i.op1 true → AnyMarked t i

-- a MUL with the operands o, between the marks t and u: the mark of dst, and the number that it holds afterwards
pub record Product (t u : Marking) (i : Instruction) (o : Operands) (number : ℕ) : Type 0 where
  -- dst is marked exactly where an operand is marked and no operand is an unmarked 0
  pub marked : (u (register o.dst) ≡ true) ↔ (AnyMarked t i × (Blanked t i o O.Mul → ⊥))
  -- an unmarked 0 on either side gives an unmarked 0
  pub unmarked_zero : Blanked t i o O.Mul → (u (register o.dst) ≡ false) × (number ≡ 0)
  -- a marked 0 does not do this: whatever number is marked on one side, dst is marked unless the other side is an unmarked 0
  pub marked_op0 : OperandMarked t i.op0 true → (OperandMarked t i.op1 false → o.op1 ≡ 0 → ⊥) → u (register o.dst) ≡ true
  pub marked_op1 : OperandMarked t i.op1 true → (OperandMarked t i.op0 false → o.op0 ≡ 0 → ⊥) → u (register o.dst) ≡ true

-- a factor operand: the product of its register and its factor word, which is never marked
pub record Factor : Type 0 where
  -- its mark is that of this product, whatever number v the register holds
  pub mark : (l : List Bool) (r v w : ℕ) → operand_mark l (RegisterWithFactor r w) ≡ product_mark (register_mark l r) v false w
  -- with factor 0 it is unmarked whatever its register's mark, and so no sink anywhere
  pub unmarked : (t : Marking) (r : ℕ) (b : Bool) → OperandMarked t (RegisterWithFactor r 0) b ↔ (b ≡ false)
  -- and where it gives a number, that is 0
  pub zero : (psp : ℕ) (registers : List ℕ) (r v : ℕ) → value_of psp registers (RegisterWithFactor r 0) ≡ pass v → v ≡ 0

-- The theorem: of a program that names R0 to R9 alone, as every loaded one does, from every state with these ten and their marks

pub record Blanking : Type 0 where
  pub product : (e : Environment) → AllInRange e.program → (q : GuardedState number_cells mark_cells)
      → length q.plain.registers ≡ 10 → length q.marks.registers ≡ 10
      → (n : GuardedNext number_cells mark_cells) → guarded_step number_cells mark_cells e q ≡ passes n
      → {i : Instruction} {o : Operands} → InstructionRead e q.plain i o → i.opcode ≡ O.Mul
      → Product (marking_of q.marks) (marking_of n.marks) i o (get_or n.next.state.registers o.dst 0)
  pub factor : Factor
