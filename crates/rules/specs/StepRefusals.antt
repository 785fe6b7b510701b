-- Refusals 4 to 16 and the outcomes: a row for each condition of document 01's table, rows at its edge that pass, and what a step leaves.
-- The order of refusals stands in RefusalOrder.antt and behind it, the clock in StoreOrder.antt, 18 in SinkOrder.antt. The theorems stand
-- in proofs/Cases/AllCases.antt.
use Rattle.std.specs.Prelude.{ℕ, List, [], ◌∷◌, ◌++◌}
use Rattle.rules.specs.declared.OlaOpcode.TheVariants as O
use Rattle.rules.specs.declared.OlaOperand.{OlaOperand}
use Rattle.rules.specs.declared.OlaOperand.TheVariants.{Absent, Register, RegisterWithOffset, RegisterWithFactor, Psp, Pc}
use Rattle.rules.specs.Answers.{outcome}
use Rattle.rules.specs.Entry.{Snapshot, used_tape, used_output}
use Rattle.rules.specs.Encoding.{frame, imm}
use Rattle.rules.specs.CaseRows.{Start, start, with_r, with_cell, with_tape, with_free, four_cells, full, Row, row, Hold, plain, e0, e3, refused_by, nothing, register_at, cell_at, cell_count}

abbrev r0 : OlaOperand
r0 = Register 0

abbrev r1 : OlaOperand
r1 = Register 1

-- one step that is refused; one that passes, and what is looked at after it
abbrev refuses : ℕ → List ℕ → Start → Row
refuses n words s = row (plain 1 words s) nothing (refused_by n) 0 []

abbrev passes : List ℕ → Start → Row
passes words s = row (plain 1 words s) nothing e3 1 []

abbrev gives : List ℕ → Start → (Snapshot → List ℕ) → List ℕ → Row
gives words s look about = row (plain 1 words s) look e3 1 about

abbrev pc_of : Snapshot → List ℕ
pc_of s = s.machine.pc ∷ []

abbrev move : OlaOperand → List ℕ
move b = frame O.Mov Absent b r0

-- 4 to 10

unfoldable pub operand_refusals : List Row
operand_refusals =
    -- 4: pc past the last instruction, and inside one; the steps before it stand
    row (plain 2 (move (imm 5)) start) (register_at 0) (refused_by 4) 1 (5 ∷ [])
    ∷ row (plain 2 (frame O.Jmp Absent (imm 1) Absent ++ move (imm 5)) start) pc_of (refused_by 4) 1 (1 ∷ [])
    -- 5: opcodes 19, 20, 21, 25, 26
    ∷ refuses 5 (frame O.Poseidon (imm 0) (imm 0) r0) start
    ∷ refuses 5 (frame O.Sload (imm 0) (imm 0) r0) start
    ∷ refuses 5 (frame O.Sstore (imm 0) (imm 0) r0) start
    ∷ refuses 5 (frame O.Sigcheck (imm 0) (imm 0) r0) start
    ∷ refuses 5 (frame O.Event (imm 0) (imm 0) r0) start
    -- 6: absent, PC; every other kind has a value
    ∷ refuses 6 (move Absent) start
    ∷ refuses 6 (move Pc) start
    ∷ gives (move (imm 5)) start (register_at 0) (5 ∷ [])
    ∷ gives (move r1) (with_r 1 6 start) (register_at 0) (6 ∷ [])
    ∷ gives (move (RegisterWithOffset 1 3)) (with_r 1 6 start) (register_at 0) (9 ∷ [])
    ∷ gives (move (RegisterWithFactor 1 3)) (with_r 1 6 start) (register_at 0) (18 ∷ [])
    ∷ gives (move Psp) start (register_at 0) (0xFFFFFFFE00000002 ∷ [])
    -- 6: a destination that is no register
    ∷ refuses 6 (frame O.Mov Absent (imm 5) Absent) start
    ∷ refuses 6 (frame O.Mov Absent (imm 5) (imm 0)) start
    ∷ refuses 6 (frame O.Mov Absent (imm 5) (RegisterWithOffset 1 0)) start
    ∷ refuses 6 (frame O.Mov Absent (imm 5) (RegisterWithFactor 1 0)) start
    ∷ refuses 6 (frame O.Mov Absent (imm 5) Psp) start
    ∷ refuses 6 (frame O.Mov Absent (imm 5) Pc) start
    -- 6: ASSERT without a register; op0 of JMP
    ∷ refuses 6 (frame O.Assert Absent (imm 1) Absent) start
    ∷ refuses 6 (frame O.Jmp (imm 0) (imm 0) Absent) start
    ∷ refuses 6 (frame O.Jmp r1 (imm 0) Absent) start
    ∷ refuses 6 (frame O.Jmp (RegisterWithOffset 1 0) (imm 0) Absent) start
    ∷ refuses 6 (frame O.Jmp (RegisterWithFactor 1 0) (imm 0) Absent) start
    ∷ refuses 6 (frame O.Jmp Psp (imm 0) Absent) start
    ∷ refuses 6 (frame O.Jmp Pc (imm 0) Absent) start
    ∷ gives (frame O.Jmp Absent (imm 9) Absent) start pc_of (9 ∷ [])
    -- operands that an opcode does not read are ignored
    ∷ passes (frame O.Mov Pc (imm 5) r0) start
    ∷ passes (frame O.Rc Pc (imm 5) Pc) start
    ∷ row (plain 1 (frame O.End Pc Pc Pc) start) nothing e0 1 []
    -- 7: a part of an offset or factor operand not below p
    ∷ refuses 7 (move (RegisterWithOffset 1 0xFFFFFFFF00000001)) start
    ∷ refuses 7 (move (RegisterWithOffset 1 0)) (with_r 1 0xFFFFFFFF00000001 start)
    ∷ gives (move (RegisterWithOffset 1 0xFFFFFFFF00000000)) (with_r 1 0xFFFFFFFF00000000 start) (register_at 0) (0xFFFFFFFEFFFFFFFF ∷ [])
    ∷ refuses 7 (move (RegisterWithFactor 1 0xFFFFFFFF00000001)) start
    ∷ refuses 7 (move (RegisterWithFactor 1 0)) (with_r 1 0xFFFFFFFF00000001 start)
    ∷ gives (move (RegisterWithFactor 1 0xFFFFFFFF00000000)) (with_r 1 0xFFFFFFFF00000000 start) (register_at 0) (1 ∷ [])
    -- 7: op0 or op1 of ADD, MUL, NOT, MLOAD, MSTORE not below p; EQ and MOV take any word
    ∷ refuses 7 (frame O.Add (imm 0) (imm 0xFFFFFFFF00000001) r0) start
    ∷ refuses 7 (frame O.Mul (imm 0xFFFFFFFF00000001) (imm 0) r0) start
    ∷ refuses 7 (frame O.Mul (imm 0) (imm 0xFFFFFFFF00000001) r0) start
    ∷ refuses 7 (frame O.Not Absent (imm 0xFFFFFFFF00000001) r0) start
    ∷ refuses 7 (frame O.Mload (imm 0xFFFFFFFF00000001) (imm 0) r0) (four_cells start)
    ∷ refuses 7 (frame O.Mload (imm 0) (imm 0xFFFFFFFF00000001) r0) (four_cells start)
    ∷ refuses 7 (frame O.Mstore (imm 0xFFFFFFFF00000001) (imm 0) r0) start
    ∷ refuses 7 (frame O.Mstore (imm 0) (imm 0xFFFFFFFF00000001) r0) start
    ∷ gives (frame O.Eq (imm 0xFFFFFFFFFFFFFFFF) (imm 0xFFFFFFFFFFFFFFFF) r0) start (register_at 0) (1 ∷ [])
    ∷ gives (move (imm 0xFFFFFFFFFFFFFFFF)) start (register_at 0) (0xFFFFFFFFFFFFFFFF ∷ [])
    -- 8: CJMP op0 not 0 or 1; AND, OR, XOR, GTE operand at least 0xFFFFFFFF
    ∷ refuses 8 (frame O.Cjmp (imm 2) (imm 9) Absent) start
    ∷ gives (frame O.Cjmp (imm 1) (imm 9) Absent) start pc_of (9 ∷ [])
    ∷ gives (frame O.Cjmp (imm 0) (imm 9) Absent) start pc_of (2 ∷ [])
    ∷ refuses 8 (frame O.And (imm 0) (imm 0xFFFFFFFF) r0) start
    ∷ refuses 8 (frame O.Or (imm 0xFFFFFFFF) (imm 0) r0) start
    ∷ gives (frame O.Or (imm 0xC) (imm 0xA) r0) start (register_at 0) (0xE ∷ [])
    ∷ refuses 8 (frame O.Xor (imm 0) (imm 0xFFFFFFFF) r0) start
    ∷ gives (frame O.Xor (imm 0xC) (imm 0xA) r0) start (register_at 0) (6 ∷ [])
    ∷ refuses 8 (frame O.Gte (imm 0xFFFFFFFF) (imm 0) r0) start
    ∷ gives (frame O.Gte (imm 0xFFFFFFFE) (imm 0xFFFFFFFE) r0) start (register_at 0) (1 ∷ [])
    -- 9: ASSERT op1 not 1; 10 is among the starred cases
    ∷ refuses 9 (frame O.Assert Absent r1 Absent) start
    ∷ refuses 9 (frame O.Assert Absent r1 Absent) (with_r 1 2 start)
    ∷ passes (frame O.Assert Absent r1 Absent) (with_r 1 1 start)
    ∷ []

abbrev pub OperandRefusalsHold : Type 0
OperandRefusalsHold = Hold operand_refusals

-- 11 to 16

abbrev tape_store : ℕ → ℕ → List ℕ
tape_store a b = frame O.Tstore (imm a) (imm b) Absent

abbrev tape_load : ℕ → ℕ → ℕ → List ℕ
tape_load a b d = frame O.Tload (imm a) (imm b) (imm d)

abbrev memory_store : ℕ → List ℕ
memory_store a = frame O.Mstore (imm a) (imm 0) r0

abbrev contract_call : ℕ → List ℕ
contract_call b = frame O.Sccall (imm 0) (imm b) Absent

abbrev ret : List ℕ
ret = frame O.Ret Absent Absent Absent

unfoldable pub memory_refusals : List Row
memory_refusals =
    -- 12: the span reaches the region's end or 2^64; one cell less passes
    refuses 12 (tape_store 0xFFFFFFFD00000001 2) (with_cell 0xFFFFFFFD00000001 5 (with_cell 0xFFFFFFFD00000002 6 start))
    ∷ passes (tape_store 0xFFFFFFFD00000001 1) (with_cell 0xFFFFFFFD00000001 5 (with_cell 0xFFFFFFFD00000002 6 start))
    ∷ refuses 12 (tape_store 0xFFFFFFFE00000000 2) (with_cell 0xFFFFFFFE00000000 5 (with_cell 0xFFFFFFFE00000001 6 start))
    ∷ passes (tape_store 0xFFFFFFFE00000000 1) (with_cell 0xFFFFFFFE00000000 5 (with_cell 0xFFFFFFFE00000001 6 start))
    ∷ refuses 12 (tape_store 0xFFFFFFFFFFFFFFFF 1) start
    -- 11: a cell not present; an address from p on, a length of 0 too; a length of 0 below p passes
    ∷ refuses 11 (tape_store 0 5) (four_cells start)
    ∷ refuses 11 (tape_store 0xFFFFFFFF00000001 0) start
    ∷ passes (tape_store 0xFFFFFFFF00000000 0) start
    ∷ refuses 11 (frame O.Mload (imm 3) (imm 1) r0) (four_cells start)
    ∷ gives (frame O.Mload (imm 2) (imm 1) r0) (four_cells start) (register_at 0) (8 ∷ [])
    ∷ gives (frame O.Mload (imm 0xFFFFFFFF00000000) (imm 2) r0) (four_cells start) (register_at 0) (6 ∷ [])
    -- 11: RET with R9 below 2, and with a cell not present; it reads pc from R9 - 1, R9 from R9 - 2
    ∷ refuses 11 ret (four_cells start)
    ∷ refuses 11 ret (with_r 9 1 (four_cells start))
    ∷ refuses 11 ret (with_r 9 5 (four_cells start))
    ∷ gives ret (with_r 9 4 (four_cells start)) pc_of (8 ∷ [])
    ∷ gives ret (with_r 9 4 (four_cells start)) (register_at 9) (7 ∷ [])
    -- 13: TLOAD op0 not 0 or 1, a position not written, a length above the count
    ∷ refuses 13 (tape_load 2 0 0) (with_tape (5 ∷ 6 ∷ []) start)
    ∷ refuses 13 (tape_load 0 2 0) (with_tape (5 ∷ 6 ∷ []) start)
    ∷ gives (tape_load 0 1 0) (with_tape (5 ∷ 6 ∷ []) start) (cell_at 0) (6 ∷ [])
    ∷ refuses 13 (tape_load 1 3 0) (with_tape (5 ∷ 6 ∷ []) start)
    ∷ gives (tape_load 1 2 0) (with_tape (5 ∷ 6 ∷ []) start) (cell_at 0) (5 ∷ [])
    ∷ gives (tape_load 1 1 0) (with_tape (5 ∷ 6 ∷ []) start) (cell_at 0) (6 ∷ [])
    -- 14: a number above p; an address from p on, of TLOAD and of CALL; dst plus a count of 1 past 2^64 - 1, of 0 passes
    ∷ refuses 14 (tape_load 0 0 0) (with_tape (0xFFFFFFFF00000002 ∷ []) start)
    ∷ passes (tape_load 0 0 0) (with_tape (0xFFFFFFFF00000001 ∷ []) start)
    ∷ refuses 14 (tape_load 0 0 0xFFFFFFFF00000001) (with_tape (5 ∷ []) start)
    ∷ refuses 14 (frame O.Call Absent (imm 0) Absent) (with_r 9 0xFFFFFFFF00000002 start)
    ∷ refuses 14 (tape_load 1 1 0xFFFFFFFFFFFFFFFF) (with_tape (5 ∷ []) start)
    ∷ passes (tape_load 1 0 0xFFFFFFFFFFFFFFFF) (with_tape (5 ∷ []) start)
    -- 15: the prophet region, from its first address to its last
    ∷ passes (memory_store 0xFFFFFFFE00000001) start
    ∷ refuses 15 (memory_store 0xFFFFFFFE00000002) start
    ∷ refuses 15 (memory_store 0xFFFFFFFF00000000) start
    ∷ refuses 15 (frame O.Call Absent (imm 0) Absent) (with_r 9 0xFFFFFFFF00000001 start)
    -- 16: free cells, for new addresses only
    ∷ refuses 16 (memory_store 0) (full start)
    ∷ gives (memory_store 3) (full (four_cells start)) (cell_at 3) (7 ∷ [])
    ∷ refuses 16 (memory_store 4) (full (four_cells start))
    ∷ gives (memory_store 4) (with_free 1 0 0 (four_cells start)) cell_count (5 ∷ [])
    ∷ refuses 16 (tape_load 1 2 3) (with_free 0 0 0 (with_tape (5 ∷ 6 ∷ []) (four_cells start)))
    ∷ gives (tape_load 1 2 3) (with_free 1 0 0 (with_tape (5 ∷ 6 ∷ []) (four_cells start))) (cell_at 4) (6 ∷ [])
    ∷ refuses 16 (frame O.Call Absent (imm 0) Absent) (full (with_r 9 1 start))
    ∷ passes (frame O.Call Absent (imm 0) Absent) (full (with_r 9 1 (four_cells start)))
    -- 16: TSTORE, the tape and the output; SCCALL, twelve values of tape and no output
    ∷ refuses 16 (tape_store 0 4) (with_free 0 3 4 (four_cells start))
    ∷ refuses 16 (tape_store 0 4) (with_free 0 4 3 (four_cells start))
    ∷ passes (tape_store 0 4) (with_free 0 4 4 (four_cells start))
    ∷ refuses 16 (contract_call 0) (with_free 0 11 4 (four_cells start))
    ∷ row (plain 1 (contract_call 0) (with_free 0 12 0 (four_cells start))) nothing (outcome 1 (5 ∷ 6 ∷ 7 ∷ 8 ∷ [])) 1 []
    ∷ []

abbrev pub MemoryRefusalsHold : Type 0
MemoryRefusalsHold = Hold memory_refusals

-- The outcomes, and the steps that an answer carries

abbrev end : List ℕ
end = frame O.End Absent Absent Absent

-- R0 grows by 1, and again from pc 0 on
abbrev loop : List ℕ
loop = frame O.Add r0 (imm 1) r0 ++ frame O.Jmp Absent (imm 0) Absent

-- four words of the caller, and four of the callee in cells 0 to 3
abbrev caller : List ℕ
caller = 0x11 ∷ 0x22 ∷ 0x33 ∷ 0x44 ∷ []

abbrev callee : List ℕ
callee = 5 ∷ 6 ∷ 7 ∷ 8 ∷ []

unfoldable pub outcomes : List Row
outcomes =
    -- e0: the output is not cleared
    row (plain 9 (tape_store 0 2 ++ end) (four_cells start)) used_output e0 2 (5 ∷ 6 ∷ [])
    ∷ row (plain 9 (tape_store 0 2 ++ end) (four_cells start)) used_tape e0 2 (5 ∷ 6 ∷ [])
    -- e1, e2: caller, callee, and then callee, caller, behind what the tape has; the output becomes empty, and its buffer is not cleared
    ∷ row (plain 9 (contract_call 0) (four_cells start)) used_tape (outcome 1 callee) 1 (caller ++ (callee ++ callee))
    ∷ row (plain 9 (contract_call 1) (with_tape (9 ∷ []) (four_cells start))) used_tape (outcome 2 callee) 1 (9 ∷ (caller ++ (callee ++ caller)))
    ∷ row (plain 9 (tape_store 0 2 ++ contract_call 1) (with_free 0 14 4 (four_cells start))) used_output (outcome 2 callee) 2 []
    ∷ row (plain 9 (tape_store 0 2 ++ contract_call 1) (with_free 0 14 4 (four_cells start))) (λ s. s.output) (outcome 2 callee) 2 (5 ∷ 6 ∷ 0 ∷ 0 ∷ [])
    -- e3: as many steps as the budget; the last step may end
    ∷ row (plain 5 loop start) (register_at 0) e3 5 (10 ∷ [])
    ∷ row (plain 4 loop start) (register_at 0) e3 4 (9 ∷ [])
    ∷ row (plain 1 end start) nothing e0 1 []
    -- a refused step: the steps before it are carried and stand, nothing of it does
    ∷ row (plain 9 (move (imm 5) ++ (move (imm 6) ++ tape_load 1 2 0xFFFFFFFE00000001)) (with_tape (5 ∷ 6 ∷ []) start)) (register_at 0) (refused_by 15) 2 (6 ∷ [])
    ∷ row (plain 9 (tape_load 1 2 0xFFFFFFFE00000001) (with_tape (5 ∷ 6 ∷ []) start)) cell_count (refused_by 15) 0 (0 ∷ [])
    ∷ row (plain 9 (memory_store 0xFFFFFFFE00000002) start) pc_of (refused_by 15) 0 (0 ∷ [])
    ∷ []

abbrev pub OutcomesHold : Type 0
OutcomesHold = Hold outcomes
