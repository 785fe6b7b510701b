-- What each opcode gives, how far it moves pc, when the cells got their numbers, what it marks, what it blanks, and what `solve` prints of
-- refusals. Document 01, 'The step', the end of 'Frames', 'Marks' and the end of 'Cases'; document 02, #103 and #108. The theorems stand in
-- proofs/Cases/AllCases.antt.
use Rattle.std.specs.Prelude.{ℕ, ◌≡◌, List, [], ◌∷◌, ◌++◌}
use Rattle.rules.specs.declared.OlaOpcode.{OlaOpcode}
use Rattle.rules.specs.declared.OlaOpcode.TheVariants as O
use Rattle.rules.specs.declared.OlaOperand.{OlaOperand}
use Rattle.rules.specs.declared.OlaOperand.TheVariants.{Absent, Register, RegisterWithOffset, RegisterWithFactor, Psp, Pc}
use Rattle.rules.specs.Answers.{outcome}
use Rattle.rules.specs.Entry.{Snapshot, GuardedSnapshot, used_moments, used_tape, used_output}
use Rattle.rules.specs.Calls.{plain_budget_text}
use Rattle.rules.specs.Solve.{solve, printed}
use Rattle.rules.specs.Encoding.{frame, imm, bytes}
use Rattle.rules.specs.CaseRows.{
  Start,
  start,
  with_r,
  with_marked_r,
  with_cell,
  with_held,
  with_marked_cell,
  with_marked_held,
  with_tape,
  with_clk,
  with_psp,
  full,
  four_cells,
  start_snapshot,
  Row,
  row,
  Hold,
  plain,
  guarded,
  e0,
  e3,
  refused_by,
  register_at,
  cell_at,
  held_at,
  clk_of,
  marked_register_at,
  marked_cell_at,
}
use Rattle.rules.specs.RefusalOrder.{end_lines}

abbrev r0 : OlaOperand
r0 = Register 0

abbrev r1 : OlaOperand
r1 = Register 1

-- one step, and what is looked at after it
abbrev gives : List ℕ → Start → (Snapshot → List ℕ) → List ℕ → Row
gives words s look about = row (plain 1 words s) look e3 1 about

-- op0 and op1 to R0
abbrev computes : OlaOpcode → ℕ → ℕ → ℕ → Row
computes o a b n = gives (frame o (imm a) (imm b) r0) start (register_at 0) (n ∷ [])

abbrev pc_of : Snapshot → List ℕ
pc_of s = s.machine.pc ∷ []

abbrev loop : List ℕ
loop = frame O.Jmp Absent (imm 0) Absent

unfoldable pub results : List Row
results =
    computes O.Add 0xFFFFFFFF00000000 3 2
    ∷ computes O.Mul 0xFFFFFFFF00000000 3 0xFFFFFFFEFFFFFFFE
    ∷ computes O.Eq 5 5 1
    ∷ computes O.Eq 5 6 0
    ∷ computes O.Neq 5 6 1
    ∷ computes O.Neq 5 5 0
    ∷ computes O.Gte 5 4 1
    ∷ computes O.Gte 4 5 0
    ∷ computes O.And 0xC 0xA 8
    ∷ computes O.Or 0xC 0xA 0xE
    ∷ computes O.Xor 0xC 0xA 6
    ∷ gives (frame O.Not Absent (imm 0xFFFFFFFF00000000) r0) start (register_at 0) (0 ∷ [])
    -- MSTORE writes the number of register dst; CALL the following pc
    ∷ gives (frame O.Mstore (imm 2) (imm 3) r0) start (cell_at 5) (7 ∷ [])
    ∷ gives (frame O.Call Absent (imm 9) Absent) (with_r 9 1 start) pc_of (9 ∷ [])
    ∷ gives (frame O.Call Absent r1 Absent) (with_r 9 1 start) (cell_at 0) (1 ∷ [])
    -- TSTORE: to the end of tape and output
    ∷ gives (frame O.Tstore (imm 1) (imm 2) Absent) (with_tape (9 ∷ []) (four_cells start)) used_tape (9 ∷ 6 ∷ 7 ∷ [])
    ∷ gives (frame O.Tstore (imm 1) (imm 2) Absent) (with_tape (9 ∷ []) (four_cells start)) used_output (6 ∷ 7 ∷ [])
    -- each step adds 1 to clk
    ∷ row (plain 5 loop (with_clk 4 start)) clk_of e3 5 (9 ∷ [])
    ∷ []

-- how far pc moves: 2 for MLOAD and MSTORE, else 2 where op1 has kind 1, 3 or 4, else 1
unfoldable pub lengths : List Row
lengths =
    gives (frame O.Mload (imm 0) r1 r0) (four_cells start) pc_of (2 ∷ [])
    ∷ gives (frame O.Mstore (imm 0) r1 r0) start pc_of (2 ∷ [])
    ∷ gives (frame O.Mov Absent (imm 5) r0) start pc_of (2 ∷ [])
    ∷ gives (frame O.Mov Absent r1 r0) start pc_of (1 ∷ [])
    ∷ gives (frame O.Mov Absent (RegisterWithOffset 1 5) r0) start pc_of (2 ∷ [])
    ∷ gives (frame O.Mov Absent (RegisterWithFactor 1 5) r0) start pc_of (2 ∷ [])
    ∷ gives (frame O.Mov Absent Psp r0) start pc_of (1 ∷ [])
    -- whatever the frame's length: op0 and dst do not count
    ∷ gives (frame O.Add (imm 5) r1 r0) start pc_of (1 ∷ [])
    ∷ gives (frame O.Tload (imm 1) r1 (imm 5)) start pc_of (1 ∷ [])
    ∷ gives (frame O.Tstore (imm 0) r1 Absent) start pc_of (1 ∷ [])
    ∷ gives (frame O.Cjmp (imm 0) r1 Absent) start pc_of (1 ∷ [])
    ∷ gives (frame O.Assert Absent r1 Absent) (with_r 1 1 start) pc_of (1 ∷ [])
    -- END and SCCALL
    ∷ row (plain 1 (frame O.End Absent (imm 5) Absent) start) pc_of e0 1 (2 ∷ [])
    ∷ row (plain 1 (frame O.End Absent Pc Absent) start) pc_of e0 1 (1 ∷ [])
    ∷ row (plain 1 (frame O.Sccall (imm 0) r1 Absent) (four_cells start)) pc_of (outcome 1 (5 ∷ 6 ∷ 7 ∷ 8 ∷ [])) 1 (1 ∷ [])
    -- an opcode of refusal 5, jumped over
    ∷ row (plain 2 (frame O.Jmp Absent (imm 3) Absent ++ (frame O.Sload r1 r1 r0 ++ frame O.Mov Absent r1 r0)) start) pc_of e3 2 (4 ∷ [])
    ∷ []

abbrev pub ResultsHold : Type 0
ResultsHold = Hold results × Hold lengths

-- Moments (#103)

-- cells 2, 4 and 6 hold 5, 7 and 8, since the moments 1, 2 and 3; R0 is 7, and clk is 9
abbrev three_cells : Start
three_cells = with_clk 9 (with_held 2 5 1 (with_held 4 7 2 (with_held 6 8 3 start)))

-- one step, and the moments of all cells after it
abbrev moments_are : List ℕ → Start → List ℕ → Row
moments_are words s about = gives words s used_moments about

-- R0 to a cell
abbrev stores : ℕ → List ℕ
stores a = frame O.Mstore (imm a) (imm 0) r0

-- the same of a guarded step
abbrev guarded_moments_are : List ℕ → Start → List ℕ → Row
guarded_moments_are words s about = row (guarded 1 words s) (λ g. used_moments g.plain) e3 1 about

unfoldable pub moments : List Row
moments =
    -- a new cell: before all, between two, behind all
    moments_are (stores 1) three_cells (9 ∷ 1 ∷ 2 ∷ 3 ∷ [])
    ∷ moments_are (stores 5) three_cells (1 ∷ 2 ∷ 9 ∷ 3 ∷ [])
    ∷ moments_are (stores 7) three_cells (1 ∷ 2 ∷ 3 ∷ 9 ∷ [])
    -- another number in its place, and the same
    ∷ gives (stores 2) three_cells (held_at 2) (7 ∷ 9 ∷ [])
    ∷ gives (stores 4) three_cells (held_at 4) (7 ∷ 9 ∷ [])
    ∷ moments_are (stores 4) three_cells (1 ∷ 9 ∷ 3 ∷ [])
    -- CALL: a new cell, a present one
    ∷ moments_are (frame O.Call Absent (imm 0) Absent) (with_r 9 1 three_cells) (9 ∷ 1 ∷ 2 ∷ 3 ∷ [])
    ∷ gives (frame O.Call Absent (imm 0) Absent) (with_r 9 7 three_cells) (held_at 6) (2 ∷ 9 ∷ [])
    -- TLOAD: three cells, one of them present, at one moment; a present one; none
    ∷ moments_are (frame O.Tload (imm 1) (imm 3) (imm 3)) (with_tape (1 ∷ 2 ∷ 3 ∷ []) three_cells) (1 ∷ 9 ∷ 9 ∷ 9 ∷ 3 ∷ [])
    ∷ moments_are (frame O.Tload (imm 0) (imm 0) (imm 6)) (with_tape (8 ∷ []) three_cells) (1 ∷ 2 ∷ 9 ∷ [])
    ∷ moments_are (frame O.Tload (imm 1) (imm 0) (imm 2)) (with_tape (8 ∷ []) three_cells) (1 ∷ 2 ∷ 3 ∷ [])
    -- what is read keeps its moment: MLOAD, RET, TSTORE, SCCALL
    ∷ moments_are (frame O.Mload (imm 4) (imm 0) r0) three_cells (1 ∷ 2 ∷ 3 ∷ [])
    ∷ moments_are (frame O.Ret Absent Absent Absent) (with_r 9 6 (with_clk 9 (with_held 4 7 2 (with_held 5 8 3 start)))) (2 ∷ 3 ∷ [])
    ∷ moments_are (frame O.Tstore (imm 4) (imm 1) Absent) three_cells (1 ∷ 2 ∷ 3 ∷ [])
    ∷ row (plain 1 (frame O.Sccall (imm 0) r1 Absent) (with_clk 9 (four_cells start))) used_moments (outcome 1 (5 ∷ 6 ∷ 7 ∷ 8 ∷ [])) 1 (0 ∷ 0 ∷ 0 ∷ 0 ∷ [])
    -- two stores to one cell, at 9 and at 10; a store that is refused
    ∷ row (plain 2 (stores 2 ++ stores 2) three_cells) used_moments e3 2 (10 ∷ 2 ∷ 3 ∷ [])
    ∷ row (plain 1 (stores 5) (full three_cells)) used_moments (refused_by 16) 0 (1 ∷ 2 ∷ 3 ∷ [])
    -- guarded: a marked number over a marked cell, and the same number and mark again
    ∷ guarded_moments_are (frame O.Mstore (imm 4) (imm 0) r1) (with_marked_r 1 6 (with_clk 9 (with_marked_held 4 7 2 start))) (9 ∷ [])
    ∷ guarded_moments_are (frame O.Mstore (imm 4) (imm 0) r1) (with_marked_r 1 6 (with_clk 9 (with_marked_held 4 6 2 start))) (9 ∷ [])
    -- the step of 17 stands, with its moment
    ∷ row (plain 1 (stores 2) (with_clk 999999999999 three_cells)) used_moments (refused_by 17) 1 (999999999999 ∷ 2 ∷ 3 ∷ [])
    ∷ []

abbrev pub MomentsHold : Type 0
MomentsHold = Hold moments

-- Marks

abbrev leaves : List ℕ → Start → (GuardedSnapshot → List ℕ) → List ℕ → Row
leaves words s look about = row (guarded 1 words s) look e3 1 about

-- R0 is a marked 7, or R1 a marked 6
abbrev marked0 : Start
marked0 = with_marked_r 0 7 start

abbrev marked1 : Start
marked1 = with_marked_r 1 6 start

-- a register's or a cell's number, and then its mark
unfoldable pub mark_results : List Row
mark_results =
    -- where an operand is: ADD, MUL, EQ, NEQ by op0 and by op1; NOT and MOV by op1
    leaves (frame O.Add r1 (imm 1) r0) marked1 (marked_register_at 0) (7 ∷ 1 ∷ [])
    ∷ leaves (frame O.Add (imm 1) r1 r0) marked1 (marked_register_at 0) (7 ∷ 1 ∷ [])
    ∷ leaves (frame O.Add (imm 1) (imm 1) r0) marked0 (marked_register_at 0) (2 ∷ 0 ∷ [])
    ∷ leaves (frame O.Mul r1 (imm 2) r0) marked1 (marked_register_at 0) (12 ∷ 1 ∷ [])
    ∷ leaves (frame O.Mul (imm 2) r1 r0) marked1 (marked_register_at 0) (12 ∷ 1 ∷ [])
    ∷ leaves (frame O.Eq (imm 2) r1 r0) marked1 (marked_register_at 0) (0 ∷ 1 ∷ [])
    ∷ leaves (frame O.Eq (imm 2) (imm 2) r0) marked0 (marked_register_at 0) (1 ∷ 0 ∷ [])
    ∷ leaves (frame O.Neq r1 (imm 2) r0) marked1 (marked_register_at 0) (1 ∷ 1 ∷ [])
    ∷ leaves (frame O.Not Absent r1 r0) marked1 (marked_register_at 0) (0xFFFFFFFEFFFFFFFA ∷ 1 ∷ [])
    ∷ leaves (frame O.Not Absent (imm 0) r0) marked0 (marked_register_at 0) (0xFFFFFFFF00000000 ∷ 0 ∷ [])
    ∷ leaves (frame O.Mov Absent r1 r0) marked1 (marked_register_at 0) (6 ∷ 1 ∷ [])
    ∷ leaves (frame O.Mov Absent (RegisterWithOffset 1 1) r0) marked1 (marked_register_at 0) (7 ∷ 1 ∷ [])
    ∷ leaves (frame O.Mov Absent (RegisterWithFactor 1 2) r0) marked1 (marked_register_at 0) (12 ∷ 1 ∷ [])
    -- immediates and PSP are unmarked, and so is what AND gives; R1 keeps its mark
    ∷ leaves (frame O.Mov Absent (imm 5) r0) marked0 (marked_register_at 0) (5 ∷ 0 ∷ [])
    ∷ leaves (frame O.Mov Absent Psp r0) marked0 (marked_register_at 0) (0xFFFFFFFE00000002 ∷ 0 ∷ [])
    ∷ leaves (frame O.And (imm 5) (imm 5) r0) marked0 (marked_register_at 0) (5 ∷ 0 ∷ [])
    ∷ leaves (frame O.Mov Absent (imm 5) r0) marked1 (marked_register_at 1) (6 ∷ 1 ∷ [])
    -- MSTORE and MLOAD pass the mark on
    ∷ leaves (frame O.Mstore (imm 1) (imm 2) r1) (with_cell 2 5 marked1) (marked_cell_at 3) (6 ∷ 1 ∷ [])
    ∷ leaves (frame O.Mstore (imm 0) (imm 0) r0) (with_marked_cell 0 5 start) (marked_cell_at 0) (7 ∷ 0 ∷ [])
    ∷ leaves (frame O.Mload (imm 0) (imm 0) r0) (with_marked_cell 0 5 start) (marked_register_at 0) (5 ∷ 1 ∷ [])
    ∷ leaves (frame O.Mload (imm 0) (imm 0) r0) (with_cell 0 5 marked0) (marked_register_at 0) (5 ∷ 0 ∷ [])
    -- RET's R9
    ∷ leaves (frame O.Ret Absent Absent Absent) (with_r 9 2 (with_marked_cell 0 5 (with_cell 1 9 start))) (marked_register_at 9) (5 ∷ 1 ∷ [])
    ∷ leaves (frame O.Ret Absent Absent Absent) (with_r 9 2 (with_cell 0 5 (with_cell 1 9 start))) (marked_register_at 9) (5 ∷ 0 ∷ [])
    -- tape values and return pcs are unmarked
    ∷ leaves (frame O.Tload (imm 1) (imm 2) (imm 0)) (with_tape (8 ∷ 9 ∷ []) (with_marked_cell 0 5 start)) (marked_cell_at 0) (8 ∷ 0 ∷ [])
    ∷ leaves (frame O.Tload (imm 1) (imm 2) (imm 0)) (with_tape (8 ∷ 9 ∷ []) (with_marked_cell 1 5 start)) (marked_cell_at 1) (9 ∷ 0 ∷ [])
    ∷ leaves (frame O.Call Absent (imm 0) Absent) (with_r 9 1 (with_marked_cell 0 5 start)) (marked_cell_at 0) (2 ∷ 0 ∷ [])
    -- a cell that is stored before another: its mark moves with it
    ∷ leaves (frame O.Mstore (imm 0) (imm 0) r0) (with_marked_cell 1 5 start) (marked_cell_at 1) (5 ∷ 1 ∷ [])
    ∷ []

-- The marks after a last step

-- R0 is an unmarked 7, R1 a marked 6 and cell 4 a marked 9
abbrev marked_both : Start
marked_both = with_marked_cell 4 9 marked1

abbrev all_three : GuardedSnapshot → List ℕ
all_three g = marked_register_at 0 g ++ (marked_register_at 1 g ++ marked_cell_at 4 g)

-- the step of 17
abbrev at_clock : List ℕ → List ℕ → Row
at_clock words about = row (guarded 1 words (with_clk 999999999999 marked_both)) all_three (refused_by 17) 1 about

unfoldable pub last_marks : List Row
last_marks =
    -- END, and SCCALL with either outcome, write no register and no cell: each keeps its mark
    row (guarded 1 (frame O.End r1 r1 r0) marked_both) all_three e0 1 (7 ∷ 0 ∷ 6 ∷ 1 ∷ 9 ∷ 1 ∷ [])
    ∷ row (guarded 1 (frame O.Sccall (imm 0) (imm 2) r0) (four_cells marked_both)) all_three (outcome 1 (5 ∷ 6 ∷ 7 ∷ 8 ∷ [])) 1 (7 ∷ 0 ∷ 6 ∷ 1 ∷ 9 ∷ 1 ∷ [])
    ∷ row (guarded 1 (frame O.Sccall (imm 0) (imm 1) r0) (four_cells marked_both)) all_three (outcome 2 (5 ∷ 6 ∷ 7 ∷ 8 ∷ [])) 1 (7 ∷ 0 ∷ 6 ∷ 1 ∷ 9 ∷ 1 ∷ [])
    -- the step of 17 stands with its marks
    ∷ at_clock (frame O.Mov Absent r1 r0) (6 ∷ 1 ∷ 6 ∷ 1 ∷ 9 ∷ 1 ∷ [])
    ∷ at_clock (frame O.Mov Absent (imm 5) r1) (7 ∷ 0 ∷ 5 ∷ 0 ∷ 9 ∷ 1 ∷ [])
    ∷ at_clock (frame O.Mstore (imm 0) (imm 4) r0) (7 ∷ 0 ∷ 6 ∷ 1 ∷ 7 ∷ 0 ∷ [])
    ∷ at_clock (frame O.Mul r1 (imm 0) r1) (7 ∷ 0 ∷ 0 ∷ 0 ∷ 9 ∷ 1 ∷ [])
    ∷ []

abbrev pub MarkResultsHold : Type 0
MarkResultsHold = Hold mark_results × Hold last_marks

-- Blanking with zero

-- op0 and op1 to R0: its number and its mark
abbrev results0 : OlaOpcode → OlaOperand → OlaOperand → Start → List ℕ → Row
results0 o a b s about = leaves (frame o a b r0) s (marked_register_at 0) about

-- R1 is a marked 0
abbrev marked_zero : Start
marked_zero = with_marked_r 1 0 start

-- R2 is an unmarked p - 1 beside the marked R1
abbrev beside_last : Start
beside_last = with_r 2 0xFFFFFFFF00000000 marked1

-- MUL to R0, which stays; R2 is an unmarked p beside the marked R1
abbrev refused7 : OlaOperand → OlaOperand → Row
refused7 a b = row (guarded 1 (frame O.Mul a b r0) (with_r 2 0xFFFFFFFF00000001 marked1)) (marked_register_at 0) (refused_by 7) 0 (7 ∷ 0 ∷ [])

unfoldable pub zero_products : List Row
zero_products =
    -- MUL with an unmarked 0 on either side: an immediate, a register, PSP, an offset operand, a factor operand
    results0 O.Mul r1 (imm 0) marked1 (0 ∷ 0 ∷ [])
    ∷ results0 O.Mul (imm 0) r1 marked1 (0 ∷ 0 ∷ [])
    ∷ results0 O.Mul r1 (Register 2) marked1 (0 ∷ 0 ∷ [])
    ∷ results0 O.Mul (Register 2) r1 marked1 (0 ∷ 0 ∷ [])
    ∷ results0 O.Mul r1 Psp (with_psp 0 marked1) (0 ∷ 0 ∷ [])
    ∷ results0 O.Mul Psp r1 (with_psp 0 marked1) (0 ∷ 0 ∷ [])
    ∷ results0 O.Mul r1 (RegisterWithOffset 2 1) beside_last (0 ∷ 0 ∷ [])
    ∷ results0 O.Mul (RegisterWithOffset 2 1) r1 beside_last (0 ∷ 0 ∷ [])
    ∷ results0 O.Mul r1 (RegisterWithFactor 2 5) marked1 (0 ∷ 0 ∷ [])
    ∷ results0 O.Mul (RegisterWithFactor 2 5) r1 marked1 (0 ∷ 0 ∷ [])
    ∷ results0 O.Mul r1 (RegisterWithFactor 1 0) marked1 (0 ∷ 0 ∷ [])
    ∷ results0 O.Mul (RegisterWithFactor 1 0) r1 marked1 (0 ∷ 0 ∷ [])
    -- a marked 0 beside an unmarked 0
    ∷ results0 O.Mul r1 (imm 0) marked_zero (0 ∷ 0 ∷ [])
    ∷ results0 O.Mul (imm 0) r1 marked_zero (0 ∷ 0 ∷ [])
    -- to the marked register itself
    ∷ leaves (frame O.Mul r1 (imm 0) r1) marked1 (marked_register_at 1) (0 ∷ 0 ∷ [])
    -- a marked 0 does not blank: times 5, times a marked 6, times itself
    ∷ results0 O.Mul r1 (imm 5) marked_zero (0 ∷ 1 ∷ [])
    ∷ results0 O.Mul (imm 5) r1 marked_zero (0 ∷ 1 ∷ [])
    ∷ results0 O.Mul r1 (Register 2) (with_marked_r 2 6 marked_zero) (0 ∷ 1 ∷ [])
    ∷ results0 O.Mul (Register 2) r1 (with_marked_r 2 6 marked_zero) (0 ∷ 1 ∷ [])
    ∷ results0 O.Mul r1 r1 marked_zero (0 ∷ 1 ∷ [])
    -- a marked operand that is 0 by its offset does not either: p - 1 and 1
    ∷ results0 O.Mul (RegisterWithOffset 1 1) (imm 5) (with_marked_r 1 0xFFFFFFFF00000000 start) (0 ∷ 1 ∷ [])
    -- a factor operand with factor 0, and with others
    ∷ results0 O.Mov Absent (RegisterWithFactor 1 0) marked1 (0 ∷ 0 ∷ [])
    ∷ results0 O.Add (RegisterWithFactor 1 0) (imm 5) marked1 (5 ∷ 0 ∷ [])
    ∷ results0 O.Eq (RegisterWithFactor 1 0) (imm 0) marked1 (1 ∷ 0 ∷ [])
    ∷ results0 O.Mov Absent (RegisterWithFactor 1 1) marked1 (6 ∷ 1 ∷ [])
    ∷ results0 O.Mov Absent (RegisterWithFactor 1 1) marked_zero (0 ∷ 1 ∷ [])
    -- a 0 blanks nothing in another place: ADD, EQ, NEQ, an offset
    ∷ results0 O.Add r1 (imm 0) marked1 (6 ∷ 1 ∷ [])
    ∷ results0 O.Add (imm 0) r1 marked1 (6 ∷ 1 ∷ [])
    ∷ results0 O.Eq r1 (imm 0) marked1 (0 ∷ 1 ∷ [])
    ∷ results0 O.Neq (imm 0) r1 marked1 (1 ∷ 1 ∷ [])
    ∷ results0 O.Mov Absent (RegisterWithOffset 1 0) marked1 (6 ∷ 1 ∷ [])
    -- 7 goes first: a factor of p, a register that is p times factor 0 or times 0
    ∷ refused7 (RegisterWithFactor 1 0xFFFFFFFF00000001) (imm 0)
    ∷ refused7 (imm 0) (RegisterWithFactor 1 0xFFFFFFFF00000001)
    ∷ refused7 (RegisterWithFactor 2 0) r1
    ∷ refused7 r1 (RegisterWithFactor 2 0)
    ∷ refused7 (Register 2) (imm 0)
    ∷ refused7 (imm 0) (Register 2)
    ∷ []

-- the marked R1 times factor 0
abbrev zero1 : OlaOperand
zero1 = RegisterWithFactor 1 0

-- a step to this pc
abbrev comes_to : List ℕ → Start → ℕ → Row
comes_to words s pc = leaves words s (λ g. pc_of g.plain) (pc ∷ [])

-- to the callee in cells 0 to 3
abbrev calls_from : List ℕ → Row
calls_from words = row (guarded 1 words (four_cells marked1)) (marked_register_at 1) (outcome 1 (5 ∷ 6 ∷ 7 ∷ 8 ∷ [])) 1 (6 ∷ 1 ∷ [])

-- R1 times factor 0 is no sink: each listed use of an operand goes on
unfoldable pub zero_factors : List Row
zero_factors =
    results0 O.Mload zero1 (imm 0) (with_cell 0 5 marked1) (5 ∷ 0 ∷ [])
    ∷ results0 O.Mload (imm 0) zero1 (with_cell 0 5 marked1) (5 ∷ 0 ∷ [])
    ∷ leaves (frame O.Mstore zero1 (imm 3) r0) marked1 (marked_cell_at 3) (7 ∷ 0 ∷ [])
    ∷ leaves (frame O.Mstore (imm 3) zero1 r0) marked1 (marked_cell_at 3) (7 ∷ 0 ∷ [])
    ∷ results0 O.And zero1 (imm 5) marked1 (0 ∷ 0 ∷ [])
    ∷ results0 O.And (imm 5) zero1 marked1 (0 ∷ 0 ∷ [])
    ∷ results0 O.Or zero1 (imm 5) marked1 (5 ∷ 0 ∷ [])
    ∷ results0 O.Or (imm 5) zero1 marked1 (5 ∷ 0 ∷ [])
    ∷ results0 O.Xor zero1 (imm 5) marked1 (5 ∷ 0 ∷ [])
    ∷ results0 O.Xor (imm 5) zero1 marked1 (5 ∷ 0 ∷ [])
    ∷ results0 O.Gte zero1 (imm 5) marked1 (0 ∷ 0 ∷ [])
    ∷ results0 O.Gte (imm 5) zero1 marked1 (1 ∷ 0 ∷ [])
    ∷ comes_to (frame O.Rc Absent zero1 Absent) marked1 2
    ∷ comes_to (frame O.Jmp Absent zero1 Absent) marked1 0
    ∷ comes_to (frame O.Cjmp zero1 (imm 9) Absent) marked1 2
    ∷ comes_to (frame O.Cjmp (imm 1) zero1 Absent) marked1 0
    ∷ comes_to (frame O.Call Absent zero1 Absent) (with_r 9 1 marked1) 0
    -- TLOAD of position 0, of the last 0 and of the last 1; TSTORE of no cell and of cells 0 and 1
    ∷ leaves (frame O.Tload zero1 (imm 0) (imm 3)) (with_tape (8 ∷ []) marked1) (marked_cell_at 3) (8 ∷ 0 ∷ [])
    ∷ comes_to (frame O.Tload (imm 1) zero1 (imm 3)) (with_tape (8 ∷ []) marked1) 2
    ∷ leaves (frame O.Tload (imm 1) (imm 1) zero1) (with_tape (8 ∷ []) marked1) (marked_cell_at 0) (8 ∷ 0 ∷ [])
    ∷ comes_to (frame O.Tstore (imm 0) zero1 Absent) (four_cells marked1) 2
    ∷ leaves (frame O.Tstore zero1 (imm 2) Absent) (four_cells marked1) (λ g. used_output g.plain) (5 ∷ 6 ∷ [])
    ∷ calls_from (frame O.Sccall zero1 (imm 2) Absent)
    ∷ calls_from (frame O.Sccall (imm 0) zero1 Absent)
    ∷ []

abbrev pub ZeroProductsHold : Type 0
ZeroProductsHold = Hold zero_products × Hold zero_factors

-- `solve` of refusals: the number in decimal; number 2's frame; zeros at entry

-- document 01's listing without its END, with budget 0x64
unfoldable pub listing_without_end : List ℕ
listing_without_end =
    bytes
    "0000000000000064\n00000002000088040000000000000005\n0020080200009200\n0010000200008a0a0000000000000003\n000000000000091700000000000000030000000000000001\n"

abbrev pub PrintsHold : Type 0
PrintsHold =
    (solve [] ≡ bytes "1 0 0 0 0\n")
    × (solve (bytes "0000000000000001\nx\n") ≡ bytes "2 0 0 0 0 1\n")
    -- the frame in shortest hexadecimal
    × (solve (bytes "0000000000000001\n" ++ (end_lines 15 ++ bytes "x\n")) ≡ bytes "2 0 0 0 0 10\n")
    × (printed (plain_budget_text (bytes "0000000000000001\n000000000000000b\n") (start_snapshot (with_clk 1000000000000 start))) ≡ bytes "3 0 0 0 0\n")
    -- a step's refusal: steps, pc, clk, kilosteps, and the output so far
    × (solve listing_without_end ≡ bytes "4 4 7 4 0\na\n")
    × (solve (bytes "0000000000000001\n000000000000080c0000000100000000\n") ≡ bytes "10 0 0 0 0\n")
    -- budget 0
    × (solve (bytes "0000000000000000\n000000000000000b\n") ≡ bytes "e3 0 0 0 0\n")
