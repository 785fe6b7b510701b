-- The marks after a step, sentence by sentence of document 01's 'Marks' and of document 02, #108, and not by the machine's own computation.
use Rattle.std.specs.Prelude.{ℕ, ◌+◌, ◌-◌, ◌≤◌, ◌<◌, ◌≡◌, Bool, false, ◌||◌, length}
use Rattle.rules.specs.declared.OlaOpcode.{OlaOpcode}
use Rattle.rules.specs.declared.OlaOpcode.TheVariants as O
use Rattle.rules.specs.declared.OlaOperand.{OlaOperand}
use Rattle.rules.specs.declared.OlaOperand.TheVariants.{Immediate, Register, RegisterWithOffset, RegisterWithFactor, Psp}
use Rattle.rules.specs.declared.Instruction.{Instruction}
use Rattle.rules.specs.Field.{field_add}
use Rattle.rules.specs.Cells.{number_cells, mark_cells}
use Rattle.rules.specs.Operands.{Operands}
use Rattle.rules.specs.Step.{State, r9, tape_values}
use Rattle.rules.specs.Guarded.{register_mark, MarkState, cell_mark}
use Rattle.rules.specs.Entry.{GuardedSnapshot, guarded_state_of}

pub data Place : Type 0 where
  register : ℕ → Place
  cell : ℕ → Place

-- which places are marked
abbrev pub Marking : Type 0
Marking = Place → Bool

-- where the marks of a guarded state stand, and those of a snapshot
abbrev pub marking_of : MarkState mark_cells → Marking
marking_of t (register r) = register_mark t.registers r
marking_of t (cell a) = cell_mark mark_cells t.cells a

abbrev pub snapshot_marks : GuardedSnapshot → Marking
snapshot_marks g = marking_of (guarded_state_of g).marks

-- an operand is marked where its register is, but a factor operand with factor 0 is unmarked (#108); immediates and PSP are unmarked
pub data OperandMarked (t : Marking) : OlaOperand → Bool → Type 0 where
  of-immediate : {w : ℕ} → OperandMarked t (Immediate w) false
  of-psp : OperandMarked t Psp false
  of-register : {r : ℕ} → OperandMarked t (Register r) (t (register r))
  of-offset : {r w : ℕ} → OperandMarked t (RegisterWithOffset r w) (t (register r))
  of-factor : {r w : ℕ} → (w ≡ 0 → ⊥) → OperandMarked t (RegisterWithFactor r w) (t (register r))
  of-factor-0 : {r : ℕ} → OperandMarked t (RegisterWithFactor r 0) false

-- the opcodes whose result comes from op0 and op1, and from op1 alone
pub data FromBoth : OlaOpcode → Type 0 where
  add : FromBoth O.Add
  mul : FromBoth O.Mul
  eq : FromBoth O.Eq
  neq : FromBoth O.Neq
  and : FromBoth O.And
  or : FromBoth O.Or
  xor : FromBoth O.Xor
  gte : FromBoth O.Gte

pub data FromOne : OlaOpcode → Type 0 where
  not : FromOne O.Not
  mov : FromOne O.Mov

-- the places that a step writes: the destination of a result and of MLOAD, R9 of RET; the cells of MSTORE, CALL and TLOAD
pub data Writes (s : State number_cells) (o : Operands) : OlaOpcode → Place → Type 0 where
  both : {c : OlaOpcode} → FromBoth c → Writes s o c (register o.dst)
  one : {c : OlaOpcode} → FromOne c → Writes s o c (register o.dst)
  mload : Writes s o O.Mload (register o.dst)
  ret : Writes s o O.Ret (register 9)
  mstore : Writes s o O.Mstore (cell (field_add o.op0 o.op1))
  call : Writes s o O.Call (cell (r9 number_cells s - 1))
  tload : {a : ℕ} → o.dst ≤ a → a < o.dst + length (tape_values o.op0 o.op1 s.tape) → Writes s o O.Tload (cell a)

-- a MUL has an unmarked 0 on either side (#108)
pub data Blanked (t : Marking) (i : Instruction) (o : Operands) : OlaOpcode → Type 0 where
  by-op0 : OperandMarked t i.op0 false → o.op0 ≡ 0 → Blanked t i o O.Mul
  by-op1 : OperandMarked t i.op1 false → o.op1 ≡ 0 → Blanked t i o O.Mul

-- after an accepted step of an instruction, from the state s with the operands o: is a place marked?
pub data MarkedAfter (t : Marking) (i : Instruction) (s : State number_cells) (o : Operands) : OlaOpcode → Place → Bool → Type 0 where
  -- a result is marked where any operand that it came from is, but a product that is blanked is unmarked
  result-of-both : {c : OlaOpcode} {a b : Bool} → FromBoth c → (Blanked t i o c → ⊥)
      → OperandMarked t i.op0 a → OperandMarked t i.op1 b → MarkedAfter t i s o c (register o.dst) (a || b)
  result-blanked : {c : OlaOpcode} → Blanked t i o c → MarkedAfter t i s o c (register o.dst) false
  result-of-one : {c : OlaOpcode} {b : Bool} → FromOne c → OperandMarked t i.op1 b → MarkedAfter t i s o c (register o.dst) b
  -- MSTORE, MLOAD and RET's R9 pass the mark on
  mstore-passes : MarkedAfter t i s o O.Mstore (cell (field_add o.op0 o.op1)) (t (register o.dst))
  mload-passes : MarkedAfter t i s o O.Mload (register o.dst) (t (cell (field_add o.op0 o.op1)))
  ret-passes : MarkedAfter t i s o O.Ret (register 9) (t (cell (r9 number_cells s - 2)))
  -- tape values and return pcs are unmarked
  tape-value : {a : ℕ} → Writes s o O.Tload (cell a) → MarkedAfter t i s o O.Tload (cell a) false
  return-pc : MarkedAfter t i s o O.Call (cell (r9 number_cells s - 1)) false
  -- every other place keeps its mark
  kept : {c : OlaOpcode} {x : Place} → (Writes s o c x → ⊥) → MarkedAfter t i s o c x (t x)
