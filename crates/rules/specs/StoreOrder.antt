-- The order of the refusals, from the tape to the clock, in pairs as in RefusalOrder.antt. The theorems stand in
-- proofs/Cases/AllCases.antt.
use Rattle.std.specs.Prelude.{ℕ, List, [], ◌∷◌}
use Rattle.rules.specs.declared.OlaOpcode.TheVariants as O
use Rattle.rules.specs.declared.OlaOperand.{OlaOperand}
use Rattle.rules.specs.declared.OlaOperand.TheVariants.{Absent, Register}
use Rattle.rules.specs.Answers.{outcome}
use Rattle.rules.specs.Encoding.{frame, imm, absent6, offset7}
use Rattle.rules.specs.CaseRows.{Start, start, with_r, with_tape, with_clk, four_cells, full, Row, row, Hold, plain, e0, e3, refused_by, nothing, Pair, in_step, from_two, rows_of}

abbrev r1 : OlaOperand
r1 = Register 1

-- addresses of refusals 14 and 15: p, and where the prophet region starts
abbrev at14 : ℕ
at14 = 0xFFFFFFFF00000001

abbrev at15 : ℕ
at15 = 0xFFFFFFFE00000002

-- a number of refusal 14: p + 1
abbrev number14 : ℕ
number14 = 0xFFFFFFFF00000002

-- TLOAD

abbrev tape_load : OlaOperand → OlaOperand → OlaOperand → List ℕ
tape_load a b d = frame O.Tload a b d

-- one value on the tape
abbrev tape5 : Start
tape5 = with_tape (5 ∷ []) start

unfoldable pub tape_order : List Pair
tape_order =
    -- dst's 6, and dst's 7, before 13
    in_step start 6 (tape_load (imm 2) (imm 0) absent6) 13 (tape_load (imm 2) (imm 0) (imm 0))
    ∷ in_step start 7 (tape_load (imm 2) (imm 0) offset7) 13 (tape_load (imm 2) (imm 0) (imm 0))
    -- op0's 6, and op1's 7, before 14, 15, 16
    ∷ in_step tape5 6 (tape_load absent6 (imm 0) (imm at14)) 14 (tape_load (imm 0) (imm 0) (imm at14))
    ∷ in_step tape5 7 (tape_load (imm 0) offset7 (imm at14)) 14 (tape_load (imm 0) (imm 0) (imm at14))
    ∷ in_step tape5 6 (tape_load absent6 (imm 0) (imm at15)) 15 (tape_load (imm 0) (imm 0) (imm at15))
    ∷ in_step tape5 7 (tape_load (imm 0) offset7 (imm at15)) 15 (tape_load (imm 0) (imm 0) (imm at15))
    ∷ in_step (full tape5) 6 (tape_load absent6 (imm 0) (imm 0)) 16 (tape_load (imm 0) (imm 0) (imm 0))
    ∷ in_step (full tape5) 7 (tape_load (imm 0) offset7 (imm 0)) 16 (tape_load (imm 0) (imm 0) (imm 0))
    -- 13 before 14, 15, 16: op0 = 2; position 1 not written; length 2 above the count
    ∷ in_step tape5 13 (tape_load (imm 2) (imm 0) (imm at14)) 14 (tape_load (imm 0) (imm 0) (imm at14))
    ∷ in_step tape5 13 (tape_load (imm 0) (imm 1) (imm at15)) 15 (tape_load (imm 0) (imm 0) (imm at15))
    ∷ in_step (full tape5) 13 (tape_load (imm 1) (imm 2) (imm 0)) 16 (tape_load (imm 1) (imm 1) (imm 0))
    -- one cell: the number's 14 before 15, before 16
    ∷ from_two (tape_load (imm 0) (imm 0) (imm at15)) 14 (with_tape (number14 ∷ []) start) 15 tape5
    ∷ from_two (tape_load (imm 0) (imm 0) (imm 0)) 14 (full (with_tape (number14 ∷ []) start)) 16 (full tape5)
    -- the address's 14, and 15, before 16
    ∷ in_step (full tape5) 14 (tape_load (imm 0) (imm 0) (imm at14)) 16 (tape_load (imm 0) (imm 0) (imm 0))
    ∷ in_step (full tape5) 15 (tape_load (imm 0) (imm 0) (imm at15)) 16 (tape_load (imm 0) (imm 0) (imm 0))
    -- dst plus count past 2^64 - 1: 14 before 16
    ∷ in_step (full tape5) 14 (tape_load (imm 1) (imm 1) (imm 0xFFFFFFFFFFFFFFFF)) 16 (tape_load (imm 1) (imm 1) (imm 0))
    -- two cells: the first one's 15 before the second one's 14, by its number and by its address
    ∷ in_step (with_tape (5 ∷ number14 ∷ []) start) 15 (tape_load (imm 1) (imm 2) (imm at15)) 14 (tape_load (imm 1) (imm 2) (imm 0xFFFFFFFE00000001))
    ∷ in_step (with_tape (5 ∷ 6 ∷ []) start) 15 (tape_load (imm 1) (imm 2) (imm 0xFFFFFFFF00000000)) 14 (tape_load (imm 1) (imm 2) (imm at14))
    -- two cells: the first one's 14 before the second one's 15
    ∷ from_two (tape_load (imm 1) (imm 2) (imm 0xFFFFFFFE00000001)) 14 (with_tape (number14 ∷ 5 ∷ []) start) 15 (with_tape (5 ∷ 5 ∷ []) start)
    ∷ []

abbrev pub TapeOrderHolds : Type 0
TapeOrderHolds = Hold (rows_of tape_order)

-- MSTORE of R1, and CALL

abbrev memory_store : OlaOperand → OlaOperand → List ℕ
memory_store a b = frame O.Mstore a b r1

-- R1 is p + 1
abbrev large : Start
large = with_r 1 number14 start

-- op0 is p, which the operation refuses 7
abbrev prime : OlaOperand
prime = imm 0xFFFFFFFF00000001

abbrev call : OlaOperand → List ℕ
call b = frame O.Call Absent b Absent

-- the cell of CALL is R9 - 1
abbrev with_r9 : ℕ → Start
with_r9 n = with_r 9 n start

unfoldable pub store_order : List Pair
store_order =
    -- MSTORE: op1's 6, op1's 7 and the operation's 7 before 14, 15, 16
    in_step large 6 (memory_store (imm 0) absent6) 14 (memory_store (imm 0) (imm 0))
    ∷ in_step large 7 (memory_store (imm 0) offset7) 14 (memory_store (imm 0) (imm 0))
    ∷ in_step large 7 (memory_store prime (imm 0)) 14 (memory_store (imm 0) (imm 0))
    ∷ in_step start 6 (memory_store (imm at15) absent6) 15 (memory_store (imm at15) (imm 0))
    ∷ in_step start 7 (memory_store (imm at15) offset7) 15 (memory_store (imm at15) (imm 0))
    ∷ in_step start 7 (memory_store prime (imm at15)) 15 (memory_store (imm 0) (imm at15))
    ∷ in_step (full start) 6 (memory_store (imm 0) absent6) 16 (memory_store (imm 0) (imm 0))
    ∷ in_step (full start) 7 (memory_store (imm 0) offset7) 16 (memory_store (imm 0) (imm 0))
    ∷ in_step (full start) 7 (memory_store prime (imm 0)) 16 (memory_store (imm 0) (imm 0))
    -- MSTORE: the number's 14 before 15 and before 16, 15 before 16
    ∷ from_two (memory_store (imm at15) (imm 0)) 14 large 15 start
    ∷ from_two (memory_store (imm 0) (imm 0)) 14 (full large) 16 (full start)
    ∷ in_step (full start) 15 (memory_store (imm at15) (imm 0)) 16 (memory_store (imm 0) (imm 0))
    -- CALL: op1's 6, and op1's 7, before 14, 15, 16
    ∷ in_step (with_r9 0) 6 (call absent6) 14 (call (imm 0))
    ∷ in_step (with_r9 0) 7 (call offset7) 14 (call (imm 0))
    ∷ in_step (with_r9 0xFFFFFFFE00000003) 6 (call absent6) 15 (call (imm 0))
    ∷ in_step (with_r9 0xFFFFFFFE00000003) 7 (call offset7) 15 (call (imm 0))
    ∷ in_step (full (with_r9 1)) 6 (call absent6) 16 (call (imm 0))
    ∷ in_step (full (with_r9 1)) 7 (call offset7) 16 (call (imm 0))
    -- CALL: the 14 of R9 = 0 and of an address from p on, and 15, before 16
    ∷ from_two (call (imm 0)) 14 (full (with_r9 0)) 16 (full (with_r9 1))
    ∷ from_two (call (imm 0)) 14 (full (with_r9 0xFFFFFFFF00000002)) 16 (full (with_r9 1))
    ∷ from_two (call (imm 0)) 15 (full (with_r9 0xFFFFFFFF00000001)) 16 (full (with_r9 1))
    ∷ []

abbrev pub StoreOrderHolds : Type 0
StoreOrderHolds = Hold (rows_of store_order)

-- The clock: the step of 17 is counted, and a refused step comes to no clock

-- from clk 10^12 - 1, and one before it
abbrev edge : Start → Start
edge s = with_clk 999999999999 s

abbrev early : Start → Start
early s = with_clk 999999999998 s

abbrev move : List ℕ
move = frame O.Mov Absent (imm 5) (Register 0)

-- a step that is refused at the edge
abbrev stays : ℕ → List ℕ → Start → Row
stays n words s = row (plain 1 words (edge s)) nothing (refused_by n) 0 []

unfoldable pub clock_order : List Row
clock_order =
    -- 17 before e3
    row (plain 1 move (edge start)) nothing (refused_by 17) 1 []
    ∷ row (plain 1 move (early start)) nothing e3 1 []
    -- 17 before the next step's 4
    ∷ row (plain 2 move (edge start)) nothing (refused_by 17) 1 []
    ∷ row (plain 2 move (early start)) nothing (refused_by 4) 1 []
    -- e0, e1 and e2 and not 17
    ∷ row (plain 1 (frame O.End Absent Absent Absent) (edge start)) nothing e0 1 []
    ∷ row (plain 1 (frame O.Sccall (imm 0) (imm 0) Absent) (edge (four_cells start))) nothing (outcome 1 (5 ∷ 6 ∷ 7 ∷ 8 ∷ [])) 1 []
    ∷ row (plain 1 (frame O.Sccall (imm 0) (imm 1) Absent) (edge (four_cells start))) nothing (outcome 2 (5 ∷ 6 ∷ 7 ∷ 8 ∷ [])) 1 []
    -- 5 to 16 and not 17
    ∷ stays 5 (frame O.Poseidon Absent Absent Absent) start
    ∷ stays 6 (frame O.Mov Absent absent6 r1) start
    ∷ stays 7 (frame O.Mov Absent offset7 r1) start
    ∷ stays 8 (frame O.Gte (imm 0xFFFFFFFF) (imm 0) r1) start
    ∷ stays 9 (frame O.Assert Absent r1 Absent) start
    ∷ stays 10 (frame O.Rc Absent (imm 0x100000000) Absent) start
    ∷ stays 11 (frame O.Ret Absent Absent Absent) start
    ∷ stays 12 (frame O.Tstore (imm 0xFFFFFFFD00000002) (imm 1) Absent) start
    ∷ stays 13 (tape_load (imm 2) (imm 0) (imm 0)) start
    ∷ stays 14 (memory_store (imm 0) (imm 0)) large
    ∷ stays 15 (memory_store (imm at15) (imm 0)) start
    ∷ stays 16 (memory_store (imm 0) (imm 0)) (full start)
    ∷ []

abbrev pub ClockOrderHolds : Type 0
ClockOrderHolds = Hold clock_order
