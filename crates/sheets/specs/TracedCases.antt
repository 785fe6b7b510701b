-- Cases of traced calls: each opcode's line, where 19 comes, CALL's further read, moments, and a line as text. A row is a call and what is
-- looked at after it, and then what document 02, #102 and #103, says. The theorems stand in proofs/TracedCasesHold.antt.
use Rattle.std.specs.Prelude.{ℕ, zero, suc, ◌+◌, ◌*◌, ◌≡◌, List, [], ◌∷◌, ◌++◌, take, drop, replicate, Option, Some, None}
use Rattle.rules.specs.declared.OlaOpcode.{OlaOpcode}
use Rattle.rules.specs.declared.OlaOpcode.TheVariants as O
use Rattle.rules.specs.declared.OlaOperand.{OlaOperand}
use Rattle.rules.specs.declared.OlaOperand.TheVariants.{Absent, Register, RegisterWithOffset, RegisterWithFactor}
use Rattle.rules.specs.Numbers.{heap_end, clock_end}
use Rattle.rules.specs.Hexadecimal.{word_of}
use Rattle.rules.specs.Text.{line_feed}
use Rattle.rules.specs.Answers.{Meaning, outcome}
use Rattle.rules.specs.Calls.{Called}
use Rattle.rules.specs.Encoding.{frame, imm, absent6, offset7, bytes}
use Rattle.rules.specs.CaseRows.{Start, start, with_r, with_cell, with_held, with_tape, with_clk, full, four_cells, start_snapshot, Row, row, Hold, plain, e0, e3, refused_by, malformed, nothing, held_at}
use Rattle.sheets.specs.TracedCalls.{TracedSnapshot, traced_words}

-- a sheet of so many bytes, each ee
abbrev handed : Start → ℕ → TracedSnapshot
handed s n = record { plain = start_snapshot s; sheet = replicate n 0xEE }

-- a traced call of bare words: its budget, its words, its start, the bytes of its sheet
abbrev traced : ℕ → List ℕ → Start → ℕ → Called TracedSnapshot
traced budget words s n = traced_words words budget (handed s n)

-- What is looked at: the 16 words of a line as they read back, and the first of the bytes behind so many lines

abbrev word_number : Option ℕ → List ℕ
word_number (Some n) = n ∷ []
word_number None = []

unfoldable pub words_in : ℕ → List ℕ → List ℕ
words_in zero cs = []
words_in (suc n) cs = word_number (word_of (take 16 cs)) ++ words_in n (drop 16 cs)

abbrev line : ℕ → TracedSnapshot → List ℕ
line j t = words_in 16 (drop (257 * j) t.sheet)

abbrev first_behind : ℕ → TracedSnapshot → List ℕ
first_behind k t = take 1 (drop (257 * k) t.sheet)

-- clk, pc and the registers of a start, then the four last words
abbrev from : Start → ℕ → ℕ → ℕ → ℕ → List ℕ
from s op0 op1 dst w = s.clk ∷ (0 ∷ (s.registers ++ (op0 ∷ op1 ∷ dst ∷ w ∷ [])))

-- Each opcode's line

abbrev answers : Meaning → List ℕ → Start → ℕ → ℕ → ℕ → ℕ → Row
answers m words s op0 op1 dst w = row (traced 1 words s 257) (line 0) m 1 (from s op0 op1 dst w)

abbrev shows : List ℕ → Start → ℕ → ℕ → ℕ → ℕ → Row
shows words s op0 op1 dst w = answers e3 words s op0 op1 dst w

abbrev r0 : OlaOperand
r0 = Register 0

abbrev r1 : OlaOperand
r1 = Register 1

-- the result goes to R0, whose number is op0's
abbrev computes : OlaOpcode → OlaOperand → ℕ → ℕ → Row
computes o b op1 dst = shows (frame o r0 b r0) (with_r 1 3 (with_clk 0xAB start)) 7 op1 dst 7

-- cells 0 to 3 hold 5 to 8, R1 is 1
abbrev in_cells : Start
in_cells = with_r 1 1 (four_cells start)

unfoldable pub opcode_lines : List Row
opcode_lines =
    computes O.Add (imm 5) 5 12
    ∷ computes O.Mul r1 3 21
    ∷ computes O.Eq r1 3 0
    ∷ computes O.Neq r1 3 1
    ∷ computes O.And (imm 3) 3 3
    ∷ computes O.Or (imm 8) 8 15
    ∷ computes O.Xor r1 3 4
    ∷ computes O.Gte r1 3 1
    -- an op0 that is not asked for is not shown
    ∷ shows (frame O.Not (imm 9) (imm 0) r1) start 0 0 0xFFFFFFFF00000000 6
    ∷ shows (frame O.Mov (imm 9) r0 r1) start 0 7 7 6
    ∷ shows (frame O.Assert Absent r1 Absent) (with_r 1 1 start) 0 1 0 2
    ∷ shows (frame O.Rc Absent (imm 9) Absent) start 0 9 0 2
    ∷ shows (frame O.Jmp Absent (imm 4) Absent) start 0 4 0 2
    -- CJMP: op1 alone, evaluated also where no jump follows
    ∷ shows (frame O.Cjmp (imm 1) (imm 4) Absent) start 0 4 0 2
    ∷ shows (frame O.Cjmp (imm 0) (RegisterWithOffset 0 4) Absent) start 0 11 0 2
    ∷ shows (frame O.Cjmp (imm 0) (RegisterWithFactor 0 4) Absent) start 0 28 0 2
    ∷ shows (frame O.Call Absent (imm 4) Absent) (with_r 9 2 (with_cell 0 5 start)) 0 4 0 2
    ∷ shows (frame O.Ret (imm 9) (imm 9) r1) (with_r 9 2 (four_cells start)) 0 0 0 0
    ∷ shows (frame O.Mload (imm 2) (imm 1) r0) in_cells 2 1 8 7
    -- MSTORE of R0 over an 8
    ∷ shows (frame O.Mstore (imm 2) (imm 1) r0) in_cells 2 1 7 7
    -- op1 of kinds 3 and 4: the evaluated offset, and not the bare register
    ∷ shows (frame O.Mload (imm 1) (RegisterWithOffset 1 1) r0) in_cells 1 2 8 7
    ∷ shows (frame O.Mload (imm 1) (RegisterWithFactor 1 2) r0) in_cells 1 2 8 7
    ∷ shows (frame O.Mstore (imm 1) (RegisterWithOffset 1 1) r0) in_cells 1 2 7 7
    ∷ shows (frame O.Mstore (imm 1) (RegisterWithFactor 1 2) r0) in_cells 1 2 7 7
    -- TLOAD's dst is an address that is not shown
    ∷ shows (frame O.Tload (imm 1) (imm 2) (imm 3)) (with_tape (8 ∷ 9 ∷ []) start) 1 2 0 3
    ∷ shows (frame O.Tstore (imm 1) (imm 2) r0) in_cells 1 2 0 3
    ∷ answers (outcome 2 (5 ∷ 6 ∷ 7 ∷ 8 ∷ [])) (frame O.Sccall (imm 0) r1 r0) in_cells 0 1 0 3
    ∷ answers e0 (frame O.End (imm 9) (imm 9) r1) start 0 0 0 0
    ∷ []

abbrev pub OpcodeLinesHold : Type 0
OpcodeLinesHold = Hold opcode_lines

-- The second line: pc, clk and R0 are those after the first step

unfoldable pub second_line : List Row
second_line =
    row (traced 2 (frame O.Add r0 (imm 5) r0 ++ frame O.Mov Absent r0 r1) (with_clk 0xAB start) 514) (line 1) e3 2
    (0xAC ∷ 2 ∷ 12 ∷ (replicate 9 0 ++ (0 ∷ 12 ∷ 12 ∷ 6 ∷ [])))
    ∷ []

abbrev pub SecondLineHolds : Type 0
SecondLineHolds = Hold second_line

-- 19

abbrev loop : List ℕ
loop = frame O.Jmp Absent (imm 0) Absent

abbrev end : List ℕ
end = frame O.End Absent Absent Absent

-- R0 to cell 9
abbrev new_cell : List ℕ
new_cell = frame O.Mstore (imm 9) (imm 0) r0

abbrev near_clock_end : Start
near_clock_end = with_clk 999999999999 start

-- answer and steps of a call that has so many bytes, and the first byte behind its lines
abbrev stops : ℕ → List ℕ → Start → ℕ → Meaning → ℕ → List ℕ → Row
stops budget words s n m k behind = row (traced budget words s n) (first_behind k) m k behind

unfoldable pub short_sheets : List Row
short_sheets =
    stops 3 loop start 0 (refused_by 19) 0 []
    ∷ stops 3 loop start 256 (refused_by 19) 0 (0xEE ∷ [])
    ∷ stops 3 loop start 257 (refused_by 19) 1 []
    ∷ stops 3 loop start 513 (refused_by 19) 1 (0xEE ∷ [])
    ∷ stops 3 loop start 514 (refused_by 19) 2 []
    -- the sheet is full exactly when the budget is done
    ∷ stops 0 loop start 0 e3 0 []
    ∷ stops 1 loop start 257 e3 1 []
    ∷ stops 2 loop start 514 e3 2 []
    ∷ stops 2 loop start 515 e3 2 (0xEE ∷ [])
    -- END and SCCALL
    ∷ stops 1 end start 256 (refused_by 19) 0 (0xEE ∷ [])
    ∷ stops 1 end start 257 e0 1 []
    ∷ stops 1 (frame O.Sccall (imm 0) r1 Absent) in_cells 256 (refused_by 19) 0 (0xEE ∷ [])
    -- 16 goes before it, and every other refusal
    ∷ stops 1 new_cell (full start) 256 (refused_by 16) 0 (0xEE ∷ [])
    ∷ stops 1 new_cell (full start) 257 (refused_by 16) 0 (0xEE ∷ [])
    ∷ stops 1 new_cell start 256 (refused_by 19) 0 (0xEE ∷ [])
    ∷ stops 1 (frame O.Assert Absent r1 Absent) start 0 (refused_by 9) 0 []
    -- from clk 10^12 - 1: 19 and not 17; with a line, 17 and its line
    ∷ stops 1 loop near_clock_end 256 (refused_by 19) 0 (0xEE ∷ [])
    ∷ stops 9 loop near_clock_end 257 (refused_by 17) 1 []
    ∷ row (traced 9 loop near_clock_end 300) (line 0) (refused_by 17) 1 (from near_clock_end 0 0 0 2)
    -- 1, 2 and 3 leave the sheet
    ∷ stops 1 [] start 257 (refused_by 1) 0 (0xEE ∷ [])
    ∷ stops 1 (0xFFFFFFFFFFFFFFFF ∷ []) start 257 (malformed 1) 0 (0xEE ∷ [])
    ∷ stops 1 loop (with_clk clock_end start) 257 (refused_by 3) 0 (0xEE ∷ [])
    ∷ []

abbrev pub ShortSheetsHold : Type 0
ShortSheetsHold = Hold short_sheets

-- a step refused 19 leaves what the step before left: R0 and clk after one step of two
abbrev r0_and_clk : TracedSnapshot → List ℕ
r0_and_clk t = take 1 t.plain.machine.registers ++ (t.plain.machine.clk ∷ [])

abbrev add_twice : List ℕ
add_twice = frame O.Add r0 (imm 5) r0 ++ frame O.Add r0 (imm 5) r0

unfoldable pub left_by19 : List Row
left_by19 =
    row (traced 2 add_twice start 513) r0_and_clk (refused_by 19) 1 (12 ∷ 1 ∷ [])
    ∷ row (traced 2 add_twice start 514) r0_and_clk e3 2 (17 ∷ 2 ∷ [])
    ∷ []

abbrev pub LeftBy19Holds : Type 0
LeftBy19Holds = Hold left_by19

-- CALL's further read: the traced call, and the plain one beside it

abbrev call : OlaOperand → List ℕ
call b = frame O.Call Absent b Absent

abbrev traced_then_plain : OlaOperand → Start → Meaning → ℕ → Meaning → ℕ → List Row
traced_then_plain b s m k n j = row (traced 1 (call b) s 257) nothing m k [] ∷ (row (plain 1 (call b) s) nothing n j [] ∷ [])

unfoldable pub further_reads : List Row
further_reads =
    -- R9 of 0 and 1
    traced_then_plain (imm 4) (with_r 9 0 start) (refused_by 11) 0 (refused_by 14) 0
    ++ (traced_then_plain (imm 4) (with_r 9 1 start) (refused_by 11) 0 e3 1
    -- R9 of 2, cell 0 absent and present
    ++ (traced_then_plain (imm 4) (with_r 9 2 start) (refused_by 11) 0 e3 1
    ++ (traced_then_plain (imm 4) (with_r 9 2 (with_cell 1 5 start)) (refused_by 11) 0 e3 1
    ++ (traced_then_plain (imm 4) (with_r 9 2 (with_cell 0 5 start)) e3 1 e3 1
    -- beside a store into the prophet region: 11 first, and 15 where the cell is present
    ++ (traced_then_plain (imm 4) (with_r 9 (heap_end + 1) start) (refused_by 11) 0 (refused_by 15) 0
    ++ (traced_then_plain (imm 4) (with_r 9 0xFFFFFFFE00000003 (with_cell 0xFFFFFFFE00000001 5 start)) (refused_by 15) 0 (refused_by 15) 0
    -- beside full cells, 11 first
    ++ (traced_then_plain (imm 4) (with_r 9 2 (full start)) (refused_by 11) 0 (refused_by 16) 0
    ++ (traced_then_plain (imm 4) (with_r 9 2 (with_cell 0 5 (full start))) (refused_by 16) 0 (refused_by 16) 0
    -- op1 is refused before it
    ++ (traced_then_plain absent6 (with_r 9 0 start) (refused_by 6) 0 (refused_by 6) 0
    ++ (traced_then_plain offset7 (with_r 9 0 start) (refused_by 7) 0 (refused_by 7) 0
    -- before 19 too
    ++ (stops 1 (call (imm 4)) (with_r 9 2 start) 0 (refused_by 11) 0 []
    ∷ stops 1 (call (imm 4)) (with_r 9 2 (with_cell 0 5 start)) 0 (refused_by 19) 0 []
    ∷ [])))))))))))

abbrev pub FurtherReadsHold : Type 0
FurtherReadsHold = Hold further_reads

-- Moments: a traced run keeps them as a plain one does, and no line shows them

-- from clk 171, where cells 1 and 2 got their numbers at 169 and R9 is 3
abbrev with_moments : Start
with_moments = with_r 9 3 (with_held 1 8 0xA9 (with_held 2 9 0xA9 (with_clk 0xAB start)))

-- number and moment of a cell after a call that has so many bytes
abbrev leaves : List ℕ → ℕ → ℕ → Meaning → ℕ → List ℕ → Row
leaves words n a m k h = row (traced 1 words with_moments n) (λ t. held_at a t.plain) m k h

abbrev loads : List ℕ
loads = frame O.Mload (imm 1) (imm 1) r0

abbrev stores : List ℕ
stores = frame O.Mstore (imm 1) (imm 1) r0

unfoldable pub kept_moments : List Row
kept_moments =
    -- MLOAD reads number and moment, and shows the number
    shows loads with_moments 1 1 9 7
    ∷ leaves loads 257 2 e3 1 (9 ∷ 0xA9 ∷ [])
    -- MSTORE writes: the clk before its step, with a line and not without
    ∷ shows stores with_moments 1 1 7 7
    ∷ leaves stores 257 2 e3 1 (7 ∷ 0xAB ∷ [])
    ∷ leaves stores 256 2 (refused_by 19) 0 (9 ∷ 0xA9 ∷ [])
    -- CALL writes cell R9 - 1, and its further read takes nothing from cell R9 - 2
    ∷ shows (call (imm 4)) with_moments 0 4 0 2
    ∷ leaves (call (imm 4)) 257 2 e3 1 (2 ∷ 0xAB ∷ [])
    ∷ leaves (call (imm 4)) 257 1 e3 1 (8 ∷ 0xA9 ∷ [])
    ∷ []

abbrev pub KeptMomentsHold : Type 0
KeptMomentsHold = Hold kept_moments

-- A line as text

-- NOT of 0 from clk 10 and R1 = p, four words to a line here: 256 digits and a line feed, and then what stood there
abbrev not_line : List ℕ
not_line =
    bytes "000000000000000a00000000000000000000000000000007ffffffff00000001"
    ++ (bytes "0000000000000000000000000000000000000000000000000000000000000000"
    ++ (bytes "0000000000000000000000000000000000000000000000000000000000000000"
    ++ (bytes "00000000000000000000000000000000ffffffff000000000000000000000006"
    ++ (line_feed ∷ []))))

abbrev not_call : Called TracedSnapshot
not_call = traced 1 (frame O.Not Absent (imm 0) r0) (with_r 1 0xFFFFFFFF00000001 (with_clk 10 start)) 259

abbrev pub LineTextHolds : Type 0
LineTextHolds = not_call.left.sheet ≡ not_line ++ (0xEE ∷ 0xEE ∷ [])
