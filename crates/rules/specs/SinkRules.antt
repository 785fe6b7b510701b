-- The sinks: document 01's listed uses, item by item, and what it is for a step to reach one.
use Rattle.std.specs.Prelude.{ℕ, suc, ◌+◌, ◌-◌, ◌≤◌, ◌<◌, ◌≡◌, true, List}
use Rattle.rules.specs.declared.OlaOpcode.{OlaOpcode}
use Rattle.rules.specs.declared.OlaOpcode.TheVariants as O
use Rattle.rules.specs.declared.Instruction.{Instruction}
use Rattle.rules.specs.declared.Held.{Held}
use Rattle.rules.specs.Numbers.{clock_end}
use Rattle.rules.specs.Results.{pass}
use Rattle.rules.specs.Cells.{number_cells}
use Rattle.rules.specs.Opcodes.{class_of}
use Rattle.rules.specs.Operands.{fetch, value_of, Operands, operands}
use Rattle.rules.specs.Step.{Environment, State, Finish, goes_on, r9, read_below, read_span, step}
use Rattle.rules.specs.MarkRules.{Place, register, cell, Marking, OperandMarked, MarkedAfter}

-- the opcodes that the list names together
pub data Addressing : OlaOpcode → Type 0 where
  mload : Addressing O.Mload
  mstore : Addressing O.Mstore

pub data SmallOperands : OlaOpcode → Type 0 where
  and : SmallOperands O.And
  or : SmallOperands O.Or
  xor : SmallOperands O.Xor
  gte : SmallOperands O.Gte

pub data UsesOp1 : OlaOpcode → Type 0 where
  assert : UsesOp1 O.Assert
  rc : UsesOp1 O.Rc
  jmp : UsesOp1 O.Jmp
  call : UsesOp1 O.Call

pub data UsesR9 : OlaOpcode → Type 0 where
  call : UsesR9 O.Call
  ret : UsesR9 O.Ret

pub data UsesTape : OlaOpcode → Type 0 where
  tload : UsesTape O.Tload
  tstore : UsesTape O.Tstore
  sccall : UsesTape O.Sccall

module _ (t : Marking) (i : Instruction) where
  abbrev Op0 : Type 0
  Op0 = OperandMarked t i.op0 true

  abbrev Op1 : Type 0
  Op1 = OperandMarked t i.op1 true

  -- those that come right after the operands
  pub data OperandSink : OlaOpcode → Type 0 where
    address-op0 : {c : OlaOpcode} → Addressing c → Op0 → OperandSink c
    address-op1 : {c : OlaOpcode} → Addressing c → Op1 → OperandSink c
    small-op0 : {c : OlaOpcode} → SmallOperands c → Op0 → OperandSink c
    small-op1 : {c : OlaOpcode} → SmallOperands c → Op1 → OperandSink c
    op1 : {c : OlaOpcode} → UsesOp1 c → Op1 → OperandSink c
    -- just before its test
    cjmp-op0 : Op0 → OperandSink O.Cjmp
    r9-itself : {c : OlaOpcode} → UsesR9 c → t (register 9) ≡ true → OperandSink c
    -- all operands that TLOAD, TSTORE and SCCALL read
    tape-op0 : {c : OlaOpcode} → UsesTape c → Op0 → OperandSink c
    tape-op1 : {c : OlaOpcode} → UsesTape c → Op1 → OperandSink c
    tload-dst : OperandMarked t i.dst true → OperandSink O.Tload

  -- those that come later: CJMP's op1 after the test and its evaluation; cells and RET's pc after all reads are found
  pub data ReadSink (e : Environment) (s : State number_cells) (o : Operands) : OlaOpcode → Type 0 where
    cjmp-op1 : {v : ℕ} → o.op0 ≤ 1 → value_of e.psp s.registers i.op1 ≡ pass v → Op1 → ReadSink e s o O.Cjmp
    tstore-cell : {hs : List Held} → read_span number_cells s.cells o.op0 o.op1 ≡ pass hs
        → (a : ℕ) → o.op0 ≤ a → a < o.op0 + o.op1 → t (cell a) ≡ true → ReadSink e s o O.Tstore
    sccall-cell : {hs : List Held} → read_span number_cells s.cells o.op0 4 ≡ pass hs
        → (a : ℕ) → o.op0 ≤ a → a < o.op0 + 4 → t (cell a) ≡ true → ReadSink e s o O.Sccall
    ret-pc : {h k : Held} → read_below number_cells s.cells (r9 number_cells s) 1 ≡ pass h → read_below number_cells s.cells (r9 number_cells s) 2 ≡ pass k
        → t (cell (r9 number_cells s - 1)) ≡ true → ReadSink e s o O.Ret

-- the step of an instruction, as fetched and with its operands as read
pub record InstructionRead (e : Environment) (s : State number_cells) (i : Instruction) (o : Operands) : Type 0 where
  pub fetched : fetch e.program s.pc ≡ pass i
  pub read : operands e.psp s.registers (class_of i.opcode) i ≡ pass o

-- the step from a state reaches a sink: nothing before it refuses the step
pub data ReachesSink (e : Environment) (s : State number_cells) (t : Marking) : Type 0 where
  operand : {i : Instruction} {o : Operands} → InstructionRead e s i o → OperandSink t i i.opcode → ReachesSink e s t
  reading : {i : Instruction} {o : Operands} → InstructionRead e s i o → (OperandSink t i i.opcode → ⊥)
      → ReadSink t i e s o i.opcode → ReachesSink e s t

-- an accepted step, whether it goes on, ends, calls or delegates: the plain step, at no sink, with the marks that the rules give
pub record AcceptedStep (e : Environment) (s : State number_cells) (t : Marking) (f : Finish) (s' : State number_cells) (t' : Marking) : Type 0 where
  pub instruction : Instruction
  pub operands : Operands
  pub fetched : InstructionRead e s instruction operands
  pub no_sink : ReachesSink e s t → ⊥
  pub next : step number_cells e s ≡ pass (record { state = s'; finish = f })
  pub marks : (x : Place) → MarkedAfter t instruction s operands instruction.opcode x (t' x)

-- the guarded run comes to a state after k steps: each one goes on, and leaves clk below the clock's end
pub data Comes (e : Environment) : State number_cells → Marking → ℕ → State number_cells → Marking → Type 0 where
  start : {s : State number_cells} {t : Marking} → Comes e s t 0 s t
  onward : {s s' s'' : State number_cells} {t t' t'' : Marking} {k : ℕ}
      → AcceptedStep e s t goes_on s' t' → s'.clk < clock_end → Comes e s' t' k s'' t'' → Comes e s t (suc k) s'' t''
