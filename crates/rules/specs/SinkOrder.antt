-- Refusal 18 among the others, in pairs as in RefusalOrder.antt. Where 18 comes first, `sink_before` has the guarded step, and the plain step
-- of the same, which knows no mark and gives the other refusal. The theorems stand in proofs/Cases/AllCases.antt.
use Rattle.std.specs.Prelude.{ℕ, List, [], ◌∷◌, ◌++◌}
use Rattle.rules.specs.declared.OlaOpcode.{OlaOpcode}
use Rattle.rules.specs.declared.OlaOpcode.TheVariants as O
use Rattle.rules.specs.declared.OlaOperand.{OlaOperand}
use Rattle.rules.specs.declared.OlaOperand.TheVariants.{Absent, Register, RegisterWithOffset, RegisterWithFactor}
use Rattle.rules.specs.Encoding.{frame, imm, absent6, offset7}
use Rattle.rules.specs.CaseRows.{Start, start, with_r, with_marked_r, with_cell, with_marked_cell, with_tape, with_clk, four_cells, full, Row, row, Hold, plain, guarded, refused_by, nothing, Pair, pair, in_guarded_step, sink_before, rows_of, for_each}

abbrev r0 : OlaOperand
r0 = Register 0

abbrev r1 : OlaOperand
r1 = Register 1

abbrev r9 : OlaOperand
r9 = Register 9

-- R1, R9 marked
abbrev marked_r1 : ℕ → Start
marked_r1 n = with_marked_r 1 n start

abbrev marked_r9 : ℕ → Start
marked_r9 n = with_marked_r 9 n start

-- a marked operand of refusal 7; the same with an offset below p
abbrev marked_offset7 : OlaOperand
marked_offset7 = RegisterWithOffset 1 0xFFFFFFFF00000001

abbrev marked_offset : OlaOperand
marked_offset = RegisterWithOffset 1 0

-- likewise a factor of p, and a factor of 1
abbrev marked_factor7 : OlaOperand
marked_factor7 = RegisterWithFactor 1 0xFFFFFFFF00000001

abbrev marked_factor : OlaOperand
marked_factor = RegisterWithFactor 1 1

-- factor 0: unmarked (document 02, #108)
abbrev zero_factor : OlaOperand
zero_factor = RegisterWithFactor 1 0

-- R1 marked beside an unmarked R2 that is p
abbrev r2_large : Start
r2_large = with_r 2 0xFFFFFFFF00000001 (marked_r1 0)

-- Operands before 18

-- op0 and op1 are sinks: op1's 6 and op1's 7 before op0's 18, op0's 6 and op0's 7 before op1's 18, and the 7 of an operand before its 18
abbrev both_sinks : OlaOpcode → List Pair
both_sinks o =
    in_guarded_step (marked_r1 0) 6 (frame o r1 absent6 r0) 18 (frame o r1 (imm 0) r0)
    ∷ in_guarded_step (marked_r1 0) 7 (frame o r1 offset7 r0) 18 (frame o r1 (imm 0) r0)
    ∷ in_guarded_step (marked_r1 0) 6 (frame o absent6 r1 r0) 18 (frame o (imm 0) r1 r0)
    ∷ in_guarded_step (marked_r1 0) 7 (frame o offset7 r1 r0) 18 (frame o (imm 0) r1 r0)
    ∷ in_guarded_step (marked_r1 0) 7 (frame o marked_offset7 (imm 0) r0) 18 (frame o marked_offset (imm 0) r0)
    ∷ in_guarded_step (marked_r1 0) 7 (frame o (imm 0) marked_offset7 r0) 18 (frame o (imm 0) marked_offset r0)
    ∷ in_guarded_step (marked_r1 0) 7 (frame o marked_factor7 (imm 0) r0) 18 (frame o marked_factor (imm 0) r0)
    ∷ in_guarded_step (marked_r1 0) 7 (frame o (imm 0) marked_factor7 r0) 18 (frame o (imm 0) marked_factor r0)
    -- beside an operand with factor 0: the 7 of its register, if that is p, before the other's 18
    ∷ in_guarded_step r2_large 7 (frame o (RegisterWithFactor 2 0) r1 r0) 18 (frame o zero_factor r1 r0)
    ∷ in_guarded_step r2_large 7 (frame o r1 (RegisterWithFactor 2 0) r0) 18 (frame o r1 zero_factor r0)
    ∷ []

-- dst's 6 before op0's 18
abbrev dst_before_sink : OlaOpcode → List Pair
dst_before_sink o = in_guarded_step (marked_r1 0) 6 (frame o r1 (imm 0) absent6) 18 (frame o r1 (imm 0) r0) ∷ []

-- op1 alone is a sink: its 7 before its 18
abbrev second_sink : OlaOpcode → List Pair
second_sink o = in_guarded_step (marked_r1 0) 7 (frame o Absent marked_offset7 Absent) 18 (frame o Absent marked_offset Absent) ∷ []

unfoldable pub operands_before_sinks : List Pair
operands_before_sinks =
    for_each (O.And ∷ O.Or ∷ O.Xor ∷ O.Gte ∷ O.Mload ∷ O.Mstore ∷ O.Tload ∷ O.Tstore ∷ O.Sccall ∷ []) both_sinks
    ++ (for_each (O.And ∷ O.Or ∷ O.Xor ∷ O.Gte ∷ O.Mload ∷ O.Mstore ∷ O.Tload ∷ []) dst_before_sink
    ++ (for_each (O.Rc ∷ O.Jmp ∷ O.Call ∷ []) second_sink
    -- TLOAD: op0's 6, op1's 7, and dst's own 7, before dst's 18
    ++ (in_guarded_step (marked_r1 0) 6 (frame O.Tload absent6 (imm 0) r1) 18 (frame O.Tload (imm 1) (imm 0) r1)
    ∷ in_guarded_step (marked_r1 0) 7 (frame O.Tload (imm 1) offset7 r1) 18 (frame O.Tload (imm 1) (imm 0) r1)
    ∷ in_guarded_step (marked_r1 0) 7 (frame O.Tload (imm 1) (imm 0) marked_offset7) 18 (frame O.Tload (imm 1) (imm 0) marked_offset)
    -- ASSERT: the 6 of a marked op1 that is no register before its 18
    ∷ in_guarded_step (marked_r1 0) 6 (frame O.Assert Absent marked_offset Absent) 18 (frame O.Assert Absent r1 Absent)
    -- JMP: op0's 6 before op1's 18
    ∷ in_guarded_step (marked_r1 0) 6 (frame O.Jmp (imm 0) r1 Absent) 18 (frame O.Jmp Absent r1 Absent)
    -- CALL: op1's 6, and op1's 7, before the 18 of R9
    ∷ in_guarded_step (marked_r9 1) 6 (frame O.Call Absent absent6 Absent) 18 (frame O.Call Absent (imm 0) Absent)
    ∷ in_guarded_step (marked_r9 1) 7 (frame O.Call Absent offset7 Absent) 18 (frame O.Call Absent (imm 0) Absent)
    -- CJMP: op0's 7 before op0's 18; op0's 8, and op1's 7, before op1's 18
    ∷ in_guarded_step (marked_r1 0) 7 (frame O.Cjmp marked_offset7 (imm 0) Absent) 18 (frame O.Cjmp marked_offset (imm 0) Absent)
    ∷ in_guarded_step (marked_r1 0) 8 (frame O.Cjmp (imm 2) r1 Absent) 18 (frame O.Cjmp (imm 0) r1 Absent)
    ∷ in_guarded_step (marked_r1 0) 7 (frame O.Cjmp (imm 0) marked_offset7 Absent) 18 (frame O.Cjmp (imm 0) marked_offset Absent)
    -- CJMP: op0's 7 of a factor p before its 18; op1's 18 beside op0 with factor 0, after op1's 7
    ∷ in_guarded_step (marked_r1 0) 7 (frame O.Cjmp marked_factor7 (imm 0) Absent) 18 (frame O.Cjmp marked_factor (imm 0) Absent)
    ∷ in_guarded_step (marked_r1 0) 7 (frame O.Cjmp zero_factor marked_factor7 Absent) 18 (frame O.Cjmp zero_factor marked_factor Absent)
    ∷ [])))

abbrev pub OperandsBeforeSinksHold : Type 0
OperandsBeforeSinksHold = Hold (rows_of operands_before_sinks)

-- 18 before the operation, the reading, the tape, the store and the capacity

-- op0 marked, op1 = p: 18 before the operation's 7
abbrev before_field : OlaOpcode → List Pair
before_field o = sink_before 7 (frame o r1 (imm 0xFFFFFFFF00000001) r0) (marked_r1 0) ∷ []

-- op0, and op1, a marked 0xFFFFFFFF: 18 before 8
abbrev before_small : OlaOpcode → List Pair
before_small o =
    sink_before 8 (frame o r1 (imm 0) r0) (marked_r1 0xFFFFFFFF) ∷ (sink_before 8 (frame o (imm 0) r1 r0) (marked_r1 0xFFFFFFFF) ∷ [])

-- a span of 4 cells, TSTORE of 4 and SCCALL: op0's 18 before 12, 11 and 16, op1's 18 before 12, 11 and 16
abbrev before_span : OlaOpcode → List Pair
before_span o =
    sink_before 12 (frame o r1 (imm 4) Absent) (marked_r1 0xFFFFFFFCFFFFFFFF)
    ∷ sink_before 11 (frame o r1 (imm 4) Absent) (marked_r1 0)
    ∷ sink_before 16 (frame o r1 (imm 4) Absent) (full (four_cells (marked_r1 0)))
    ∷ sink_before 12 (frame o (imm 0xFFFFFFFCFFFFFFFF) r1 Absent) (marked_r1 4)
    ∷ sink_before 11 (frame o (imm 0) r1 Absent) (marked_r1 4)
    ∷ sink_before 16 (frame o (imm 0) r1 Absent) (full (four_cells (marked_r1 4)))
    ∷ []

unfoldable pub sinks_before_rest : List Pair
sinks_before_rest =
    for_each (O.Mload ∷ O.Mstore ∷ []) before_field
    ++ (for_each (O.And ∷ O.Or ∷ O.Xor ∷ O.Gte ∷ []) before_small
    ++ (for_each (O.Tstore ∷ O.Sccall ∷ []) before_span
    -- ASSERT: before 9; RC: before 10
    ++ (sink_before 9 (frame O.Assert Absent r1 Absent) (marked_r1 0)
    ∷ sink_before 10 (frame O.Rc Absent r1 Absent) (marked_r1 0x100000000)
    -- CJMP: op0's 18 before its 8, before op1's 6, before op1's 7
    ∷ sink_before 8 (frame O.Cjmp r1 (imm 0) Absent) (marked_r1 2)
    ∷ sink_before 6 (frame O.Cjmp r1 absent6 Absent) (marked_r1 1)
    ∷ sink_before 7 (frame O.Cjmp r1 offset7 Absent) (marked_r1 1)
    -- MLOAD: before 11; RET: the 18 of R9 before 11
    ∷ sink_before 11 (frame O.Mload r1 (imm 0) r0) (marked_r1 0)
    ∷ sink_before 11 (frame O.Ret Absent Absent Absent) (marked_r9 2)
    -- TLOAD: op0's, op1's and dst's 18 before 13
    ∷ sink_before 13 (frame O.Tload r1 (imm 0) (imm 0)) (marked_r1 2)
    ∷ sink_before 13 (frame O.Tload (imm 0) r1 (imm 0)) (marked_r1 0)
    ∷ sink_before 13 (frame O.Tload (imm 2) (imm 0) r1) (marked_r1 0)
    -- TLOAD: before 14, 15, 16
    ∷ sink_before 14 (frame O.Tload r1 (imm 0) (imm 0)) (with_tape (0xFFFFFFFF00000002 ∷ []) (marked_r1 0))
    ∷ sink_before 15 (frame O.Tload (imm 0) (imm 0) r1) (with_tape (5 ∷ []) (marked_r1 0xFFFFFFFE00000002))
    ∷ sink_before 16 (frame O.Tload (imm 0) (imm 0) r1) (full (with_tape (5 ∷ []) (marked_r1 0)))
    -- MSTORE: before 14, 15, 16
    ∷ sink_before 14 (frame O.Mstore r1 (imm 0) r0) (with_r 0 0xFFFFFFFF00000002 (marked_r1 0))
    ∷ sink_before 15 (frame O.Mstore r1 (imm 0) r0) (marked_r1 0xFFFFFFFE00000002)
    ∷ sink_before 16 (frame O.Mstore r1 (imm 0) r0) (full (marked_r1 0))
    -- CALL: the 18 of R9 before 14, 15, 16
    ∷ sink_before 14 (frame O.Call Absent (imm 0) Absent) (marked_r9 0)
    ∷ sink_before 15 (frame O.Call Absent (imm 0) Absent) (marked_r9 0xFFFFFFFE00000003)
    ∷ sink_before 16 (frame O.Call Absent (imm 0) Absent) (full (marked_r9 1))
    -- CALL: op1's 18 before 14, 15, 16
    ∷ sink_before 14 (frame O.Call Absent r1 Absent) (marked_r1 0)
    ∷ sink_before 15 (frame O.Call Absent r1 Absent) (with_r 9 0xFFFFFFFE00000003 (marked_r1 0))
    ∷ sink_before 16 (frame O.Call Absent r1 Absent) (full (with_r 9 1 (marked_r1 0)))
    ∷ [])))

abbrev pub SinksBeforeRestHold : Type 0
SinksBeforeRestHold = Hold (rows_of sinks_before_rest)

-- After all reads are found

-- four cells from 0 on, the last one marked
abbrev marked_span : Start
marked_span = with_cell 0 5 (with_cell 1 6 (with_cell 2 7 (with_marked_cell 3 8 start)))

-- a span of 4 cells, TSTORE of 4 and SCCALL: 12, and 11, before the 18 of a cell; that before 16
abbrev cell_sinks : OlaOpcode → List Pair
cell_sinks o =
    pair 12 (guarded 1 (frame o (imm 0xFFFFFFFCFFFFFFFF) (imm 4) Absent) (with_marked_cell 0xFFFFFFFCFFFFFFFF 8 start))
    18 (guarded 1 (frame o (imm 0) (imm 4) Absent) marked_span)
    ∷ in_guarded_step marked_span 11 (frame o (imm 1) (imm 4) Absent) 18 (frame o (imm 0) (imm 4) Absent)
    ∷ sink_before 16 (frame o (imm 0) (imm 4) Absent) (full marked_span)
    ∷ []

unfoldable pub read_sinks : List Pair
read_sinks =
    for_each (O.Tstore ∷ O.Sccall ∷ []) cell_sinks
    -- RET: the 11 of an absent cell R9 - 2 before the 18 of the pc in cell R9 - 1
    ++ (pair 11 (guarded 1 (frame O.Ret Absent Absent Absent) (with_r 9 2 (with_marked_cell 1 0 start)))
    18 (guarded 1 (frame O.Ret Absent Absent Absent) (with_r 9 2 (with_cell 0 9 (with_marked_cell 1 0 start))))
    ∷ [])

abbrev pub ReadSinksHold : Type 0
ReadSinksHold = Hold (rows_of read_sinks)

-- The clock, from clk 10^12 - 1: 18 and not 17; the plain step gives 17

abbrev edge : Start → Start
edge s = with_clk 999999999999 s

unfoldable pub sink_at_clock : List Row
sink_at_clock =
    row (guarded 1 (frame O.Jmp Absent r1 Absent) (edge (marked_r1 0))) nothing (refused_by 18) 0 []
    ∷ row (plain 1 (frame O.Jmp Absent r1 Absent) (edge (marked_r1 0))) nothing (refused_by 17) 1 []
    ∷ row (guarded 1 (frame O.Mov Absent r1 r0) (edge (marked_r1 0))) nothing (refused_by 17) 1 []
    ∷ []

abbrev pub SinkAtClockHolds : Type 0
SinkAtClockHolds = Hold sink_at_clock
