-- The order of the refusals: a pair for any two that can meet in one call, or in one step of the plain machine. Each pair has a call in
-- which the conditions of both hold, with the answer that document 01's table puts first, and that call with the first condition mended,
-- with the other answer. Refusal 18 is in SinkOrder.antt. The theorems stand in proofs/Cases/AllCases.antt.
use Rattle.std.specs.Prelude.{ℕ, zero, suc, ◌≡◌, List, [], ◌∷◌, ◌++◌, replicate}
use Rattle.rules.specs.declared.OlaOpcode.{OlaOpcode}
use Rattle.rules.specs.declared.OlaOpcode.TheVariants as O
use Rattle.rules.specs.declared.OlaOperand.{OlaOperand}
use Rattle.rules.specs.declared.OlaOperand.TheVariants.{Absent, Register, RegisterWithOffset}
use Rattle.rules.specs.Entry.{Snapshot}
use Rattle.rules.specs.Calls.{Called, plain_text, plain_budget_text}
use Rattle.rules.specs.Encoding.{frame, imm, absent6, offset7, bytes}
use Rattle.rules.specs.CaseRows.{Start, start, with_marked_r, with_clk, four_cells, full, start_snapshot, Hold, plain, guarded, e3, refused_by, malformed, Pair, pair, pair_of, in_step, rows_of, for_each}

-- one step
abbrev once : List ℕ → Start → Called Snapshot
once words s = plain 1 words s

abbrev r0 : OlaOperand
r0 = Register 0

-- Entry

-- n frames END, as bare words and as lines
abbrev end_frames : ℕ → List ℕ
end_frames n = replicate n 0xb

unfoldable pub end_lines : ℕ → List ℕ
end_lines zero = []
end_lines (suc n) = bytes "000000000000000b\n" ++ end_lines n

-- lines of so many digits each
unfoldable pub zero_lines : ℕ → ℕ → List ℕ
zero_lines zero n = []
zero_lines (suc k) n = replicate n 48 ++ (10 ∷ zero_lines k n)

-- refused 3: clk is 10^12
abbrev bad_state : Start
bad_state = with_clk 1000000000000 start

-- refused 3: a register mark beyond R9
abbrev bad_mark : Start
bad_mark = with_marked_r 10 0 start

abbrev text : List ℕ → Called Snapshot
text cs = plain_text cs 1 (start_snapshot start)

abbrev budget_text : List ℕ → Called Snapshot
budget_text cs = plain_budget_text cs (start_snapshot start)

unfoldable pub entry_order : List Pair
entry_order =
    -- 1 before 3
    pair 1 (once [] bad_state) 3 (once (end_frames 1) bad_state)
    -- 2 before 3
    ∷ pair_of (malformed 1) (once (0x1f ∷ []) bad_state) (refused_by 3) (once (end_frames 1) bad_state)
    -- 1 before 3, and 2 before 3, of a guarded call
    ∷ pair 1 (guarded 1 [] bad_mark) 3 (guarded 1 (end_frames 1) bad_mark)
    ∷ pair_of (malformed 1) (guarded 1 (0x1f ∷ []) bad_mark) (refused_by 3) (guarded 1 (end_frames 1) bad_mark)
    -- 3 before a pause at budget 0
    ∷ pair_of (refused_by 3) (plain 0 (end_frames 1) bad_state) e3 (plain 0 (end_frames 1) start)
    ∷ []

-- 1 before 2
abbrev pub EntryOrderHolds : Type 0
EntryOrderHolds =
    Hold (rows_of entry_order)
    -- among bare words: 512 frames before a malformed one, 511
    × ((once (end_frames 512 ++ (0x1f ∷ [])) start).answer ≡ refused_by 1)
    × ((once (end_frames 511 ++ (0x1f ∷ [])) start).answer ≡ malformed 512)
    -- in a text: 512 lines after a malformed one, 511; and 512 malformed lines of 65,537 bytes
    × ((text (bytes "x\n" ++ end_lines 512)).answer ≡ refused_by 1)
    × ((text (bytes "x\n" ++ end_lines 511)).answer ≡ malformed 1)
    × ((text (zero_lines 511 127 ++ zero_lines 1 128)).answer ≡ refused_by 1)
    -- after a malformed budget line: no frame, a frame
    × ((budget_text (bytes "x\n")).answer ≡ refused_by 1)
    × ((budget_text (bytes "x\n000000000000000b\n")).answer ≡ malformed 0)

-- Fetch, and operand after operand

-- an opcode that is not covered: 5 before op0's 6, and before op0's 7
abbrev uncovered_order : OlaOpcode → List Pair
uncovered_order o =
    in_step start 5 (frame o absent6 (imm 0) r0) 6 (frame O.Add absent6 (imm 0) r0)
    ∷ in_step start 5 (frame o offset7 (imm 0) r0) 7 (frame O.Add offset7 (imm 0) r0)
    ∷ []

-- op0 and op1 are evaluated: op0's 6 before op1's 7, op0's 7 before op1's 6
abbrev two_operand_order : OlaOpcode → List Pair
two_operand_order o =
    in_step start 6 (frame o absent6 offset7 r0) 7 (frame o (imm 0) offset7 r0)
    ∷ in_step start 7 (frame o offset7 absent6 r0) 6 (frame o (imm 0) absent6 r0)
    ∷ []

-- then dst: op0's 7 before dst's 6, op1's 7 before dst's 6
abbrev destination_order : OlaOpcode → List Pair
destination_order o =
    in_step start 7 (frame o offset7 (imm 0) absent6) 6 (frame o (imm 0) (imm 0) absent6)
    ∷ in_step start 7 (frame o (imm 0) offset7 absent6) 6 (frame o (imm 0) (imm 0) absent6)
    ∷ []

unfoldable pub operand_order : List Pair
operand_order =
    for_each (O.Poseidon ∷ O.Sload ∷ O.Sstore ∷ O.Sigcheck ∷ O.Event ∷ []) uncovered_order
    ++ (for_each (O.Add ∷ O.Mul ∷ O.Eq ∷ O.Neq ∷ O.And ∷ O.Or ∷ O.Xor ∷ O.Gte ∷ O.Mload ∷ O.Mstore ∷ O.Tload ∷ O.Tstore ∷ O.Sccall ∷ []) two_operand_order
    ++ (for_each (O.Add ∷ O.Mul ∷ O.Eq ∷ O.Neq ∷ O.And ∷ O.Or ∷ O.Xor ∷ O.Gte ∷ O.Mload ∷ O.Mstore ∷ O.Tload ∷ []) destination_order
    -- TLOAD evaluates dst: op0's 6, and op1's 6, before dst's 7
    ++ (in_step start 6 (frame O.Tload absent6 (imm 0) offset7) 7 (frame O.Tload (imm 1) (imm 0) offset7)
    ∷ in_step start 6 (frame O.Tload (imm 1) absent6 offset7) 7 (frame O.Tload (imm 1) (imm 0) offset7)
    -- MOV, NOT: op1's 7 before dst's 6
    ∷ in_step start 7 (frame O.Mov Absent offset7 absent6) 6 (frame O.Mov Absent (imm 0) absent6)
    ∷ in_step start 7 (frame O.Not Absent offset7 absent6) 6 (frame O.Not Absent (imm 0) absent6)
    -- JMP: the 6 of a present op0 before op1's 7
    ∷ in_step start 6 (frame O.Jmp (imm 0) offset7 Absent) 7 (frame O.Jmp Absent offset7 Absent)
    -- CJMP: op0's 6 before op1's 7, op0's 7 before op1's 6
    ∷ in_step start 6 (frame O.Cjmp absent6 offset7 Absent) 7 (frame O.Cjmp (imm 0) offset7 Absent)
    ∷ in_step start 7 (frame O.Cjmp offset7 absent6 Absent) 6 (frame O.Cjmp (imm 0) absent6 Absent)
    -- one operand: the wrong form's 6 before the 7 of a part not below p: dst of MOV, op1 of ASSERT, op0 of JMP
    ∷ in_step start 6 (frame O.Mov Absent (imm 0) offset7) 7 (frame O.Tload (imm 1) (imm 0) offset7)
    ∷ in_step start 6 (frame O.Assert Absent offset7 Absent) 7 (frame O.Rc Absent offset7 Absent)
    ∷ in_step start 6 (frame O.Jmp offset7 (imm 0) Absent) 7 (frame O.Cjmp offset7 (imm 0) Absent)
    ∷ [])))

abbrev pub OperandOrderHolds : Type 0
OperandOrderHolds = Hold (rows_of operand_order)

-- Operation

-- op0 is p, which the operation refuses 7: op1's 6 and dst's 6 before it
abbrev field_order : OlaOpcode → List Pair
field_order o =
    in_step start 6 (frame o (imm 0xFFFFFFFF00000001) absent6 r0) 7 (frame o (imm 0xFFFFFFFF00000001) (imm 0) r0)
    ∷ in_step start 6 (frame o (imm 0xFFFFFFFF00000001) (imm 0) absent6) 7 (frame o (imm 0xFFFFFFFF00000001) (imm 0) r0)
    ∷ []

-- op0 is 0xFFFFFFFF, which the operation refuses 8: op1's 6, op1's 7 and dst's 6 before it
abbrev small_order : OlaOpcode → List Pair
small_order o =
    in_step start 6 (frame o (imm 0xFFFFFFFF) absent6 r0) 8 (frame o (imm 0xFFFFFFFF) (imm 0) r0)
    ∷ in_step start 7 (frame o (imm 0xFFFFFFFF) offset7 r0) 8 (frame o (imm 0xFFFFFFFF) (imm 0) r0)
    ∷ in_step start 6 (frame o (imm 0xFFFFFFFF) (imm 0) absent6) 8 (frame o (imm 0xFFFFFFFF) (imm 0) r0)
    ∷ []

unfoldable pub operation_order : List Pair
operation_order =
    for_each (O.Add ∷ O.Mul ∷ O.Mload ∷ O.Mstore ∷ []) field_order
    ++ (for_each (O.And ∷ O.Or ∷ O.Xor ∷ O.Gte ∷ []) small_order
    -- NOT: dst's 6 before the operation's 7
    ++ (in_step start 6 (frame O.Not Absent (imm 0xFFFFFFFF00000001) absent6) 7 (frame O.Not Absent (imm 0xFFFFFFFF00000001) r0)
    -- CJMP: op0's 8 before op1's 6 and before op1's 7, where no jump follows too
    ∷ in_step start 8 (frame O.Cjmp (imm 2) absent6 Absent) 6 (frame O.Cjmp (imm 0) absent6 Absent)
    ∷ in_step start 8 (frame O.Cjmp (imm 2) offset7 Absent) 7 (frame O.Cjmp (imm 1) offset7 Absent)
    -- ASSERT of 0: the 6 of an op1 that is no register before 9
    ∷ in_step start 6 (frame O.Assert Absent (imm 0) Absent) 9 (frame O.Assert Absent (Register 1) Absent)
    -- RC: op1's 7 before 10
    ∷ in_step start 7 (frame O.Rc Absent offset7 Absent) 10 (frame O.Rc Absent (RegisterWithOffset 1 0xFFFFFFFF00000000) Absent)
    ∷ []))

abbrev pub OperationOrderHolds : Type 0
OperationOrderHolds = Hold (rows_of operation_order)

-- Reading

-- a span of 4 cells: TSTORE of 4, SCCALL
abbrev span_order : OlaOpcode → List Pair
span_order o =
    -- op1's 6, and op1's 7, before 12
    in_step start 6 (frame o (imm 0xFFFFFFFCFFFFFFFF) absent6 Absent) 12 (frame o (imm 0xFFFFFFFCFFFFFFFF) (imm 4) Absent)
    ∷ in_step start 7 (frame o (imm 0xFFFFFFFCFFFFFFFF) offset7 Absent) 12 (frame o (imm 0xFFFFFFFCFFFFFFFF) (imm 4) Absent)
    -- op1's 6, and op1's 7, before 11
    ∷ in_step start 6 (frame o (imm 0) absent6 Absent) 11 (frame o (imm 0) (imm 4) Absent)
    ∷ in_step start 7 (frame o (imm 0) offset7 Absent) 11 (frame o (imm 0) (imm 4) Absent)
    -- op0's 6, and op0's 7, before 16
    ∷ in_step (full (four_cells start)) 6 (frame o absent6 (imm 4) Absent) 16 (frame o (imm 0) (imm 4) Absent)
    ∷ in_step (full (four_cells start)) 7 (frame o offset7 (imm 4) Absent) 16 (frame o (imm 0) (imm 4) Absent)
    -- 12 before 11: absent cells up to the end of the stack, of the heap, of the prophet region; and one cell less
    ∷ in_step start 12 (frame o (imm 0xFFFFFFFCFFFFFFFF) (imm 4) Absent) 11 (frame o (imm 0xFFFFFFFCFFFFFFFE) (imm 4) Absent)
    ∷ in_step start 12 (frame o (imm 0xFFFFFFFDFFFFFFFE) (imm 4) Absent) 11 (frame o (imm 0xFFFFFFFDFFFFFFFD) (imm 4) Absent)
    ∷ in_step start 12 (frame o (imm 0xFFFFFFFEFFFFFFFD) (imm 4) Absent) 11 (frame o (imm 0xFFFFFFFEFFFFFFFC) (imm 4) Absent)
    -- 12 before 11: from p on and up to 2^64; and one cell less
    ∷ in_step start 12 (frame o (imm 0xFFFFFFFFFFFFFFFC) (imm 4) Absent) 11 (frame o (imm 0xFFFFFFFFFFFFFFFB) (imm 4) Absent)
    -- 12 before 16
    ∷ in_step (full (four_cells start)) 12 (frame o (imm 0xFFFFFFFCFFFFFFFF) (imm 4) Absent) 16 (frame o (imm 0) (imm 4) Absent)
    -- 11 before 16: the last of the four cells is absent
    ∷ in_step (full (four_cells start)) 11 (frame o (imm 1) (imm 4) Absent) 16 (frame o (imm 0) (imm 4) Absent)
    ∷ []

unfoldable pub reading_order : List Pair
reading_order =
    for_each (O.Tstore ∷ O.Sccall ∷ []) span_order
    -- TSTORE: 12 before 11, from p on, of length 0 too
    ++ (in_step start 12 (frame O.Tstore (imm 0xFFFFFFFFFFFFFFFF) (imm 1) Absent) 11 (frame O.Tstore (imm 0xFFFFFFFFFFFFFFFF) (imm 0) Absent)
    -- MLOAD: dst's 6, op1's 7 and the operation's 7, op0 = p, before 11
    ∷ in_step start 6 (frame O.Mload (imm 0) (imm 0) absent6) 11 (frame O.Mload (imm 0) (imm 0) r0)
    ∷ in_step start 7 (frame O.Mload (imm 0) offset7 r0) 11 (frame O.Mload (imm 0) (imm 0) r0)
    ∷ in_step start 7 (frame O.Mload (imm 0xFFFFFFFF00000001) (imm 0) r0) 11 (frame O.Mload (imm 0) (imm 0) r0)
    ∷ [])

abbrev pub ReadingOrderHolds : Type 0
ReadingOrderHolds = Hold (rows_of reading_order)
