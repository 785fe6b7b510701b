-- The cases of document 01, in its order and in its numbers. A row is a call and what is looked at after it, and then what document 01
-- says: the answer, the steps, and the numbers looked at. The theorems stand in proofs/Cases/AllCases.antt.
use Rattle.std.specs.Prelude.{ℕ, ◌≡◌, List, [], ◌∷◌, ◌++◌, map}
use Rattle.rules.specs.declared.OlaOpcode.TheVariants as O
use Rattle.rules.specs.declared.OlaOperand.TheVariants.{Absent, Immediate, Register}
use Rattle.rules.specs.Answers.{outcome}
use Rattle.rules.specs.Solve.{kilosteps, solve}
use Rattle.rules.specs.Encoding.{frame, bytes}
use Rattle.rules.specs.CaseRows.{start, with_r, with_marked_r, with_cell, with_tape, with_clk, Row, row, Hold, plain, guarded, e0, e3, refused_by, nothing, register_at, cell_at, cell_count, clk_of, marked_register_at}

-- The starred cases

-- op0 and op1 to R0
abbrev add : ℕ → ℕ → List ℕ
add a b = frame O.Add (Immediate a) (Immediate b) (Register 0)

abbrev multiply : ℕ → ℕ → List ℕ
multiply a b = frame O.Mul (Immediate a) (Immediate b) (Register 0)

abbrev and : ℕ → ℕ → List ℕ
and a b = frame O.And (Immediate a) (Immediate b) (Register 0)

abbrev not : ℕ → List ℕ
not b = frame O.Not Absent (Immediate b) (Register 0)

abbrev range_check : ℕ → List ℕ
range_check b = frame O.Rc Absent (Immediate b) Absent

-- R1 to cell 0
abbrev store_r1 : List ℕ
store_r1 = frame O.Mstore (Immediate 0) (Immediate 0) (Register 1)

abbrev call : List ℕ
call = frame O.Call Absent (Immediate 0) Absent

abbrev ret : List ℕ
ret = frame O.Ret Absent Absent Absent

-- to the callee in cells 0 to 3
abbrev contract_call : ℕ → List ℕ
contract_call b = frame O.Sccall (Immediate 0) (Immediate b) Absent

-- R1 with itself to R0, and then a jump by R0
abbrev equal_then_jump : List ℕ
equal_then_jump = frame O.Eq (Register 1) (Register 1) (Register 0) ++ frame O.Cjmp (Register 0) (Immediate 0) Absent

unfoldable pub starred : List Row
starred =
    -- p-1 + 1 gives 0
    row (plain 1 (add 0xFFFFFFFF00000000 1) start) (register_at 0) e3 1 (0 ∷ [])
    -- p + 0: 7
    ∷ row (plain 1 (add 0xFFFFFFFF00000001 0) start) (register_at 0) (refused_by 7) 0 (7 ∷ [])
    -- 2^32 times 2^32 gives 0xFFFFFFFF
    ∷ row (plain 1 (multiply 0x100000000 0x100000000) start) (register_at 0) e3 1 (0xFFFFFFFF ∷ [])
    -- NOT 0 gives 0xFFFFFFFF00000000
    ∷ row (plain 1 (not 0) start) (register_at 0) e3 1 (0xFFFFFFFF00000000 ∷ [])
    -- AND of 0xFFFFFFFE and 1 gives 0; of 0xFFFFFFFF and 1: 8
    ∷ row (plain 1 (and 0xFFFFFFFE 1) start) (register_at 0) e3 1 (0 ∷ [])
    ∷ row (plain 1 (and 0xFFFFFFFF 1) start) (register_at 0) (refused_by 8) 0 (7 ∷ [])
    -- RC 0xFFFFFFFF passes, 0x100000000: 10
    ∷ row (plain 1 (range_check 0xFFFFFFFF) start) nothing e3 1 []
    ∷ row (plain 1 (range_check 0x100000000) start) nothing (refused_by 10) 0 []
    -- MSTORE of p passes, p+1: 14
    ∷ row (plain 1 store_r1 (with_r 1 0xFFFFFFFF00000001 start)) (cell_at 0) e3 1 (0xFFFFFFFF00000001 ∷ [])
    ∷ row (plain 1 store_r1 (with_r 1 0xFFFFFFFF00000002 start)) (cell_at 0) (refused_by 14) 0 []
    -- CALL with R9 = 0: 14; R9 = 1 writes cell 0: the following pc, 2
    ∷ row (plain 1 call (with_r 9 0 start)) (cell_at 0) (refused_by 14) 0 []
    ∷ row (plain 1 call (with_r 9 1 start)) (cell_at 0) e3 1 (2 ∷ [])
    -- RET with R9 = 1, cell 0 present: 11
    ∷ row (plain 1 ret (with_r 9 1 (with_cell 0 5 start))) (cell_at 0) (refused_by 11) 0 (5 ∷ [])
    -- SCCALL with op1 = 2: e1, which carries the callee
    ∷ row (plain 1 (contract_call 2) (with_cell 0 5 (with_cell 1 6 (with_cell 2 7 (with_cell 3 8 start))))) nothing (outcome 1 (5 ∷ 6 ∷ 7 ∷ 8 ∷ [])) 1 []
    -- budget 0: e3, 0 steps
    ∷ row (plain 0 (add 0 1) start) (register_at 0) e3 0 (7 ∷ [])
    -- guarded EQ of marked r1 with itself gives a marked 1; CJMP on it: 18
    ∷ row (guarded 1 equal_then_jump (with_marked_r 1 9 start)) (marked_register_at 0) e3 1 (1 ∷ 1 ∷ [])
    ∷ row (guarded 2 equal_then_jump (with_marked_r 1 9 start)) (marked_register_at 0) (refused_by 18) 1 (1 ∷ 1 ∷ [])
    ∷ []

abbrev pub StarredHold : Type 0
StarredHold = Hold starred

-- The others

abbrev tape_store : ℕ → ℕ → List ℕ
tape_store a b = frame O.Tstore (Immediate a) (Immediate b) Absent

-- to cells from 0 on
abbrev tape_load : ℕ → ℕ → List ℕ
tape_load a b = frame O.Tload (Immediate a) (Immediate b) (Immediate 0)

unfoldable pub others : List Row
others =
    -- from clk 10^12-1: MOV gives 17 and stands, END gives e0
    row (plain 1 (frame O.Mov Absent (Immediate 5) (Register 0)) (with_clk 999999999999 start)) (register_at 0) (refused_by 17) 1 (5 ∷ [])
    ∷ row (plain 1 (frame O.End Absent Absent Absent) (with_clk 999999999999 start)) clk_of e0 1 (1000000000000 ∷ [])
    -- TSTORE from 0xFFFFFFFD00000002: length 0 passes, 1: 12
    ∷ row (plain 1 (tape_store 0xFFFFFFFD00000002 0) (with_cell 0xFFFFFFFD00000002 5 start)) nothing e3 1 []
    ∷ row (plain 1 (tape_store 0xFFFFFFFD00000002 1) (with_cell 0xFFFFFFFD00000002 5 start)) nothing (refused_by 12) 0 []
    -- TLOAD of the last 0 writes nothing
    ∷ row (plain 1 (tape_load 1 0) (with_tape (5 ∷ 6 ∷ []) start)) cell_count e3 1 (0 ∷ [])
    ∷ []

abbrev pub OthersHold : Type 0
OthersHold = Hold others

-- clk / 1000, to nearest, half to even: document 02, #104, in the place of document 01's half up
abbrev pub KilostepsHold : Type 0
KilostepsHold = map kilosteps (499 ∷ 500 ∷ 1500 ∷ 2500 ∷ 2501 ∷ []) ≡ 0 ∷ 0 ∷ 2 ∷ 2 ∷ 3 ∷ []

-- the program `solve`: its input, what it prints, and the instructions of its frames
unfoldable pub listing : List ℕ
listing =
    bytes
    "0000000000000064\n00000002000088040000000000000005\n0020080200009200\n0010000200008a0a0000000000000003\n000000000000091700000000000000030000000000000001\n000000000000000b\n"

unfoldable pub listing_prints : List ℕ
listing_prints = bytes "e0 5 8 5 0\na\n"

abbrev pub ListingHolds : Type 0
ListingHolds = solve listing ≡ listing_prints

unfoldable pub listing_frames : List (List ℕ)
listing_frames =
    frame O.Mov Absent (Immediate 5) (Register 1)
    ∷ frame O.Add (Register 1) (Register 1) (Register 1)
    ∷ frame O.Mstore (Register 0) (Immediate 3) (Register 1)
    ∷ frame O.Tstore (Immediate 3) (Immediate 1) Absent
    ∷ frame O.End Absent Absent Absent
    ∷ []

unfoldable pub listing_words : List (List ℕ)
listing_words =
    (0x0000000200008804 ∷ 5 ∷ [])
    ∷ (0x0020080200009200 ∷ [])
    ∷ (0x0010000200008a0a ∷ 3 ∷ [])
    ∷ (0x0000000000000917 ∷ 3 ∷ 1 ∷ [])
    ∷ (0x000000000000000b ∷ [])
    ∷ []

abbrev pub FramesHold : Type 0
FramesHold = listing_frames ≡ listing_words
