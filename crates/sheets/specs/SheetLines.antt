-- The sheet after a traced call: a line for each accepted step, and behind the lines what stood there. Document 02, #102.
use Rattle.std.specs.Prelude.{ℕ, ◌*◌, ◌<◌, ◌≤◌, ◌≡◌, Bool, true, ◌&&◌, ◌||◌, List, [], ◌∷◌, leb, length, get_or, take, drop, Some}
use Rattle.rules.specs.declared.Instruction.{Instruction}
use Rattle.rules.specs.Numbers.{word_end}
use Rattle.rules.specs.Results.{Result, pass}
use Rattle.rules.specs.Hexadecimal.{word_of}
use Rattle.rules.specs.Frames.{load_words}
use Rattle.rules.specs.Text.{line_feed, load_text, load_budget_text}
use Rattle.rules.specs.Cells.{number_cells}
use Rattle.rules.specs.Opcodes.{class_of}
use Rattle.rules.specs.Operands as Plain
use Rattle.rules.specs.Operands.{fetch, Operands}
use Rattle.rules.specs.Step.{Next}
use Rattle.rules.specs.Entry.{environment, state_of}
use Rattle.rules.specs.Calls.{Called, job_program}
use Rattle.sheets.specs.Lines.{line_text, lines_text, line_bytes}
use Rattle.sheets.specs.Traced.{passes, line_of}
use Rattle.sheets.specs.TracedCalls.{TracedSnapshot, traced_call, traced_words, traced_text, traced_budget_text}
use Rattle.sheets.specs.SameRun.{StepAfter}

-- Line l is that of the step accepted after j steps. Its 16 words begin with clk, pc and the registers as the plain call with budget j
-- left them, and are the definition's: of the instruction there, its operands, and what the step leaves.
pub record LineAfter (program : Result (List Instruction)) (t : TracedSnapshot) (j : ℕ) (l : List ℕ) : Type 0 where
  pub next : Next number_cells
  pub accepted : StepAfter program t j (passes (record { next = next; line = l }))
  pub sixteen : length l ≡ 16
  pub before : take 12 l ≡ accepted.left.machine.clk ∷ (accepted.left.machine.pc ∷ accepted.left.machine.registers)
  pub instruction : Instruction
  pub operands : Operands
  pub fetched : fetch accepted.instructions accepted.left.machine.pc ≡ pass instruction
  pub read : Plain.operands accepted.left.machine.psp accepted.left.machine.registers (class_of instruction.opcode) instruction
      ≡ pass operands
  pub words : l
      ≡ line_of number_cells (environment accepted.instructions accepted.left) (class_of instruction.opcode) instruction
      (state_of accepted.left) operands next

-- 0-9a-f
abbrev pub is_digit : ℕ → Bool
is_digit c = (leb 48 c && leb c 57) || (leb 97 c && leb c 102)

-- The text of a line of 16 words: 256 digits, 16 a word, that read back as the word, and a line feed
pub record LineReads (l : List ℕ) : Type 0 where
  pub bytes : length (line_text l) ≡ line_bytes
  pub digits : (i : ℕ) → i < 256 → is_digit (get_or (line_text l) i 0) ≡ true
  pub reads : (i : ℕ) → i < 16 → get_or l i 0 < word_end → word_of (take 16 (drop (16 * i) (line_text l))) ≡ Some (get_or l i 0)
  pub ends : get_or (line_text l) 256 0 ≡ line_feed

-- The sheet that a call leaves: as long as before; in its first bytes the lines, one after another, 257 bytes for each step; behind them
-- every byte as it stood
pub record SheetAfter (program : Result (List Instruction)) (t : TracedSnapshot) (c : Called TracedSnapshot) : Type 0 where
  pub lines : List (List ℕ)
  pub count : length lines ≡ c.steps
  pub each : (j : ℕ) → j < c.steps → LineAfter program t j (get_or lines j [])
  pub text : (j : ℕ) → j < c.steps → LineReads (get_or lines j [])
  pub fits : line_bytes * c.steps ≤ length t.sheet
  pub long : length c.left.sheet ≡ length t.sheet
  pub line_at : (j : ℕ) → j < c.steps → take line_bytes (drop (line_bytes * j) c.left.sheet) ≡ line_text (get_or lines j [])
  pub written : take (line_bytes * c.steps) c.left.sheet ≡ lines_text lines
  pub behind : drop (line_bytes * c.steps) c.left.sheet ≡ drop (line_bytes * c.steps) t.sheet
  -- without a step, as after 1, 2 and 3, it is as it was
  pub without_step : c.steps ≡ 0 → c.left.sheet ≡ t.sheet

-- The theorem, for each public call. A machine has ten registers by its type.
pub record SheetLines : Type 0 where
  pub of_words : (words : List ℕ) (budget : ℕ) (t : TracedSnapshot) → length t.plain.machine.registers ≡ 10
      → SheetAfter (load_words words) t (traced_words words budget t)
  pub of_text : (text : List ℕ) (budget : ℕ) (t : TracedSnapshot) → length t.plain.machine.registers ≡ 10
      → SheetAfter (load_text text) t (traced_text text budget t)
  pub of_budget_text : (text : List ℕ) (t : TracedSnapshot) → length t.plain.machine.registers ≡ 10
      → SheetAfter (job_program (load_budget_text text)) t (traced_budget_text text t)
  pub of_budget_text_program : (text : List ℕ) (budget : ℕ) (t : TracedSnapshot) → length t.plain.machine.registers ≡ 10
      → SheetAfter (job_program (load_budget_text text)) t (traced_call (job_program (load_budget_text text)) budget t)
