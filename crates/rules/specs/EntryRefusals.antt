-- Refusals 1, 2 and 3: a row for each condition of document 01's table, and rows at its edge that pass. What passes is END, which gives e0.
-- The theorems stand in proofs/Cases/AllCases.antt.
use Rattle.std.specs.Prelude.{ℕ, ◌≡◌, List, [], ◌∷◌, ◌++◌, map, replicate}
use Rattle.rules.specs.Numbers.{default_psp}
use Rattle.rules.specs.Answers.{Meaning}
use Rattle.rules.specs.Entry.{Snapshot}
use Rattle.rules.specs.Calls.{Called, plain_words, plain_text, plain_budget_text, guarded_words}
use Rattle.rules.specs.Encoding.{bytes}
use Rattle.rules.specs.CaseRows.{start, start_snapshot, Row, row, Hold, plain, e0, e3, refused_by, malformed, nothing}
use Rattle.rules.specs.RefusalOrder.{end_lines}

-- Bare words

abbrev words : List ℕ → Called Snapshot
words ws = plain 1 ws start

abbrev refused_words : List ℕ → Row
refused_words ws = row (words ws) nothing (malformed 1) 0 []

abbrev passed_words : List ℕ → Row
passed_words ws = row (words ws) nothing e0 1 []

unfoldable pub word_refusals : List Row
word_refusals =
    -- no frame
    row (words []) nothing (refused_by 1) 0 []
    -- an opcode above 26; 26, which is EVENT, is refused 5 at its step
    ∷ refused_words (0x1b ∷ [])
    ∷ row (words (0x1a ∷ [])) nothing (refused_by 5) 0 []
    -- kind 7 of op0, op1, dst; kind 6, PC, which END ignores
    ∷ refused_words (0x70b ∷ [])
    ∷ refused_words (0x380b ∷ [])
    ∷ refused_words (0x1c00b ∷ [])
    ∷ passed_words (0x1b60b ∷ [])
    -- bits 5 to 7, 17 to 31, 62 and 63
    ∷ refused_words (0x2b ∷ [])
    ∷ refused_words (0x4b ∷ [])
    ∷ refused_words (0x8b ∷ [])
    ∷ refused_words (0x2000b ∷ [])
    ∷ refused_words (0x8000000b ∷ [])
    ∷ refused_words (0x400000000000000b ∷ [])
    ∷ refused_words (0x800000000000000b ∷ [])
    -- a register's selector without a bit, with two bits, with one: op0, op1, dst
    ∷ refused_words (0x000000000000020b ∷ [])
    ∷ refused_words (0x003000000000020b ∷ [])
    ∷ passed_words (0x200000000000020b ∷ [])
    ∷ refused_words (0x000000000000100b ∷ [])
    ∷ refused_words (0x00000c000000100b ∷ [])
    ∷ passed_words (0x000800000000100b ∷ [])
    ∷ refused_words (0x000000000000800b ∷ [])
    ∷ refused_words (0x000000030000800b ∷ [])
    ∷ passed_words (0x000002000000800b ∷ [])
    -- a selector where no register is named: kinds 0, 1, 5 and 6
    ∷ refused_words (0x001000000000000b ∷ [])
    ∷ refused_words (0x001000000000010b ∷ 0 ∷ [])
    ∷ refused_words (0x001000000000050b ∷ [])
    ∷ refused_words (0x001000000000060b ∷ [])
    -- value words: one of three is missing; none is
    ∷ refused_words (0x490b ∷ 0 ∷ 0 ∷ [])
    ∷ passed_words (0x490b ∷ 0 ∷ 0 ∷ 0 ∷ [])
    -- the second frame is malformed
    ∷ row (words (0xb ∷ 0x1b ∷ 0xb ∷ [])) nothing (malformed 2) 0 []
    -- after a frame of four words: frames are counted, not words
    ∷ row (words (0x490b ∷ 0 ∷ 0 ∷ 0 ∷ 0x1b ∷ [])) nothing (malformed 2) 0 []
    ∷ []

-- Texts

abbrev text : List ℕ → Meaning
text cs = (plain_text cs 1 (start_snapshot start)).answer

abbrev budget_text : List ℕ → Meaning
budget_text cs = (plain_budget_text cs (start_snapshot start)).answer

abbrev pub WordRefusalsHold : Type 0
WordRefusalsHold =
    Hold word_refusals
    -- 512 frames pass, 513: 1
    × ((words (replicate 512 0xb)).answer ≡ e0)
    × ((words (replicate 513 0xb)).answer ≡ refused_by 1)
    -- a malformed frame takes all that are left
    × ((words (0x1b ∷ replicate 512 0xb)).answer ≡ malformed 1)

abbrev pub TextRefusalsHold : Type 0
TextRefusalsHold =
    (text (bytes "000000000000000b\n") ≡ e0)
    × (text [] ≡ refused_by 1)
    -- no line feed; 15 digits; 17; no digit, next to 0-9 and a-f; a word too many; one that is missing; an empty line
    × (text (bytes "000000000000000b") ≡ malformed 1)
    × (text (bytes "00000000000000b\n") ≡ malformed 1)
    × (text (bytes "0000000000000000b\n") ≡ malformed 1)
    × (text (bytes "000000000000000B\n") ≡ malformed 1)
    × (text (bytes "000000000000000/\n") ≡ malformed 1)
    × (text (bytes "000000000000000:\n") ≡ malformed 1)
    × (text (bytes "000000000000000`\n") ≡ malformed 1)
    × (text (bytes "000000000000000g\n") ≡ malformed 1)
    × (text (bytes "000000000000000b0000000000000000\n") ≡ malformed 1)
    × (text (bytes "000000000000010b\n") ≡ malformed 1)
    × (text (bytes "000000000000000b\n\n") ≡ malformed 2)
    -- several: the earliest. Lines 3 and 40; 1 and 512; 2 and a rest without a line feed
    × (text (end_lines 2 ++ (bytes "x\n" ++ (end_lines 36 ++ bytes "x\n"))) ≡ malformed 3)
    × (text (bytes "x\n" ++ (end_lines 510 ++ bytes "x\n")) ≡ malformed 1)
    × (text (end_lines 1 ++ bytes "x\n000000000000000b") ≡ malformed 2)
    -- the budget line: 0 in number, not among the 512 frames, hexadecimal
    × (budget_text (bytes "0123456789abcdef\n000000000000000b\n") ≡ e0)
    × (budget_text (bytes "0000000000000000\n000000000000000b\n") ≡ e3)
    × (budget_text (bytes "000000000000001\n000000000000000b\n") ≡ malformed 0)
    × (budget_text (bytes "0000000000000001\n000000000000001b\n") ≡ malformed 1)
    -- the budget line and frame 3; frames 3 and 40
    × (budget_text (bytes "x\n" ++ (end_lines 2 ++ bytes "x\n")) ≡ malformed 0)
    × (budget_text (bytes "0000000000000001\n" ++ (end_lines 2 ++ (bytes "x\n" ++ (end_lines 36 ++ bytes "x\n")))) ≡ malformed 3)
    × (budget_text (bytes "0000000000000001\n") ≡ refused_by 1)
    × (budget_text (bytes "0000000000000001\n" ++ end_lines 512) ≡ e0)
    × (budget_text (bytes "0000000000000001\n" ++ end_lines 513) ≡ refused_by 1)

-- The state

-- the counts of cells, tape and output, clk, addresses, numbers, moments, tape and output
abbrev handed_in : ℕ → ℕ → ℕ → ℕ → List ℕ → List ℕ → List ℕ → List ℕ → List ℕ → Snapshot
handed_in cells tape output clk ls ns ms ts os =
    record {
      machine = record {
        registers = 0xFFFFFFFF00000001 ∷ 0xFFFFFFFF00000000 ∷ replicate 8 0;
        pc = 0;
        clk = clk;
        psp = default_psp;
        storage_addr = replicate 4 0;
        cell_count = cells;
        tape_count = tape;
        output_count = output;
      };
      addresses = ls;
      numbers = ns;
      moments = ms;
      tape = ts;
      output = os;
    }

abbrev refused_state : Snapshot → Row
refused_state s = row (plain_words (0xb ∷ []) 1 s) nothing (refused_by 3) 0 []

abbrev passed_state : Snapshot → Row
passed_state s = row (plain_words (0xb ∷ []) 1 s) nothing e0 1 []

-- two used cells, and no tape or output; their moments are 0
abbrev with_cells : List ℕ → List ℕ → Snapshot
with_cells ls ns = handed_in 2 0 0 0 ls ns (map (λ n. 0) ns) [] []

-- two used cells at clk 9, with these moments
abbrev with_moments : List ℕ → Snapshot
with_moments ms = handed_in 2 0 0 9 (5 ∷ 6 ∷ 0 ∷ []) (0 ∷ 0 ∷ 0 ∷ []) ms [] []

abbrev lent : ℕ → ℕ → ℕ → Snapshot
lent c t o = handed_in 0 0 0 0 (replicate c 0) (replicate c 0) (replicate c 0) (replicate t 0) (replicate o 0)

unfoldable pub state_refusals : List Row
state_refusals =
    -- clk at least 10^12
    refused_state (handed_in 0 0 0 1000000000000 [] [] [] [] [])
    ∷ passed_state (handed_in 0 0 0 999999999999 [] [] [] [] [])
    -- a count above its capacity: cells, tape, output
    ∷ refused_state (with_cells (5 ∷ []) (5 ∷ []))
    ∷ passed_state (with_cells (5 ∷ 6 ∷ []) (5 ∷ 6 ∷ []))
    ∷ refused_state (handed_in 0 2 0 0 [] [] [] (5 ∷ []) [])
    ∷ passed_state (handed_in 0 1 0 0 [] [] [] (5 ∷ []) [])
    ∷ refused_state (handed_in 0 0 2 0 [] [] [] [] (5 ∷ []))
    ∷ passed_state (handed_in 0 0 1 0 [] [] [] [] (5 ∷ []))
    -- cell slices of unequal length, or above 2,048; tape and output lent above 4,096
    ∷ refused_state (handed_in 0 0 0 0 (5 ∷ []) [] (0 ∷ []) [] [])
    ∷ refused_state (handed_in 0 0 0 0 [] (5 ∷ []) [] [] [])
    ∷ refused_state (handed_in 0 0 0 0 (5 ∷ []) (5 ∷ []) [] [] [])
    ∷ refused_state (handed_in 0 0 0 0 [] [] (5 ∷ []) [] [])
    ∷ refused_state (lent 2049 0 0)
    ∷ refused_state (lent 0 4097 0)
    ∷ refused_state (lent 0 0 4097)
    ∷ passed_state (lent 2048 4096 4096)
    -- addresses not strictly rising, or past the heap; an unused one may be anything
    ∷ refused_state (with_cells (5 ∷ 5 ∷ []) (0 ∷ 0 ∷ []))
    ∷ refused_state (with_cells (6 ∷ 5 ∷ []) (0 ∷ 0 ∷ []))
    ∷ refused_state (with_cells (5 ∷ 0xFFFFFFFE00000002 ∷ []) (0 ∷ 0 ∷ []))
    ∷ passed_state (with_cells (5 ∷ 0xFFFFFFFE00000001 ∷ []) (0 ∷ 0 ∷ []))
    ∷ passed_state (with_cells (5 ∷ 6 ∷ 6 ∷ []) (0 ∷ 0 ∷ 0 ∷ []))
    -- a cell above p; an unused one may be anything
    ∷ refused_state (with_cells (5 ∷ 6 ∷ []) (0 ∷ 0xFFFFFFFF00000002 ∷ []))
    ∷ passed_state (with_cells (5 ∷ 6 ∷ 0 ∷ []) (0 ∷ 0xFFFFFFFF00000001 ∷ 0xFFFFFFFF00000002 ∷ []))
    -- a moment above clk, which is 9; an unused one may be anything (document 02, #103)
    ∷ refused_state (with_moments (10 ∷ 0 ∷ 0 ∷ []))
    ∷ refused_state (with_moments (0 ∷ 10 ∷ 0 ∷ []))
    ∷ passed_state (with_moments (9 ∷ 9 ∷ 10 ∷ []))
    ∷ []

-- two cells, the second p, and one unused, with these marks; R0 is p, R1 is p - 1, with this word of marks
abbrev marked_row : List ℕ → ℕ → Meaning → ℕ → Row
marked_row ts r answer steps =
    row
    (guarded_words (0xb ∷ []) 1
    (record { plain = with_cells (5 ∷ 6 ∷ 0 ∷ []) (0xFFFFFFFF00000000 ∷ 0xFFFFFFFF00000001 ∷ 0 ∷ []); marks = ts; extras = record { registers = r } }))
    nothing
    answer
    steps
    []

-- the moments' tests are those of a plain call
abbrev guarded_row : Snapshot → Meaning → ℕ → Row
guarded_row s answer steps =
    row (guarded_words (0xb ∷ []) 1 (record { plain = s; marks = 1 ∷ 1 ∷ 0 ∷ []; extras = record { registers = 0 } })) nothing answer steps []

unfoldable pub mark_refusals : List Row
mark_refusals =
    marked_row (0 ∷ 0 ∷ 0 ∷ []) 0 e0 1
    -- a mark not 0 or 1; an unused one may be anything
    ∷ marked_row (2 ∷ 0 ∷ 0 ∷ []) 0 (refused_by 3) 0
    ∷ marked_row (1 ∷ 0 ∷ 2 ∷ []) 0 e0 1
    -- a register mark beyond R9
    ∷ marked_row (0 ∷ 0 ∷ 0 ∷ []) 0x400 (refused_by 3) 0
    ∷ marked_row (0 ∷ 0 ∷ 0 ∷ []) 0x3fe e0 1
    -- a marked number not below p: a cell's, a register's
    ∷ marked_row (0 ∷ 1 ∷ 0 ∷ []) 0 (refused_by 3) 0
    ∷ marked_row (0 ∷ 0 ∷ 0 ∷ []) 1 (refused_by 3) 0
    -- cell slices of unequal length
    ∷ marked_row (0 ∷ 0 ∷ []) 0 (refused_by 3) 0
    ∷ marked_row (0 ∷ 0 ∷ 0 ∷ 0 ∷ []) 0 (refused_by 3) 0
    -- a moment above clk, of a marked cell (document 02, #103)
    ∷ guarded_row (with_moments (9 ∷ 10 ∷ 0 ∷ [])) (refused_by 3) 0
    ∷ guarded_row (with_moments (9 ∷ 9 ∷ 10 ∷ [])) e0 1
    ∷ []

abbrev pub StateRefusalsHold : Type 0
StateRefusalsHold = Hold state_refusals × Hold mark_refusals
