-- One line of a step sheet: 16 words, joined as a frame's are. Document 02, #102.
use Rattle.std.specs.Prelude.{ℕ, suc, ◌+◌, ◌*◌, Bool, true, false, List, [], ◌∷◌, ◌++◌, ltb}
use Rattle.rules.specs.Numbers.{choose, bit}
use Rattle.rules.specs.Hexadecimal.{digits16}
use Rattle.rules.specs.Text.{line_feed}
use Rattle.rules.specs.Opcodes.{Class, addition, multiplication, equality, small, complement, move, assert, range_check, jump, conditional_jump, call, return, load, store, tape_load, tape_store, contract_call, end, uncovered}
use Rattle.sheets.specs.declared.Present.{Present}

-- Which of op0, op1 and dst a line has, by what `get_common_cpu_exe_pieces` receives

abbrev present : Bool → Bool → Bool → Present
present a b d = record { op0 = a; op1 = b; dst = d }

unfoldable pub present_of : Class → Present
present_of addition = present true true true
present_of multiplication = present true true true
present_of (equality f) = present true true true
present_of (small f) = present true true true
present_of complement = present false true true
present_of move = present false true true
present_of assert = present false true false
present_of range_check = present false true false
present_of jump = present false true false
present_of conditional_jump = present false true false
present_of call = present false true false
present_of return = present false false false
present_of load = present true true true
present_of store = present true true true
present_of tape_load = present true true false
present_of tape_store = present true true false
present_of contract_call = present true true false
present_of end = present false false false
present_of uncovered = present false false false

-- bits 0, 1 and 2
abbrev pub presence_word : Present → ℕ
presence_word w = bit w.op0 + (2 * bit w.op1 + 4 * bit w.dst)

-- an absent one is 0
abbrev pub shown : Bool → ℕ → ℕ
shown b n = choose b n 0

-- clk, pc and the registers, then op0, op1, dst and which of them are present
unfoldable pub line_words : ℕ → ℕ → List ℕ → Present → ℕ → ℕ → ℕ → List ℕ
line_words clk pc registers w op0 op1 dst =
    clk ∷ (pc ∷ (registers ++ (shown w.op0 op0 ∷ (shown w.op1 op1 ∷ (shown w.dst dst ∷ (presence_word w ∷ []))))))

-- As text

-- 16 digits for each word, and a line feed
unfoldable pub line_text : List ℕ → List ℕ
line_text [] = line_feed ∷ []
line_text (w ∷ ws) = digits16 w ++ line_text ws

unfoldable pub lines_text : List (List ℕ) → List ℕ
lines_text [] = []
lines_text (l ∷ ls) = line_text l ++ lines_text ls

-- the bytes of a line
unfoldable pub line_bytes : ℕ
line_bytes = 257

-- after so many lines, a sheet of so many bytes is too short for one more
abbrev pub is_short : ℕ → ℕ → Bool
is_short capacity lines = ltb capacity (line_bytes * suc lines)
