-- The traced step and run, over the plain machine's stages. Document 02, #102 and #103.
use Rattle.std.specs.Prelude.{ℕ, zero, suc, Bool, true, false, ◌&&◌, List, [], ◌∷◌, ◌++◌, length, get_or}
use Rattle.rules.specs.declared.Instruction.{Instruction}
use Rattle.rules.specs.declared.Held.{Held}
use Rattle.rules.specs.declared.Refusal.{Refusal}
use Rattle.rules.specs.declared.Refusal.TheVariants.{CellAbsent}
use Rattle.rules.specs.declared.Answer.TheVariants.{Paused, Refused, ShortBuffer}
use Rattle.rules.specs.Results.{Result, refuse, pass}
use Rattle.rules.specs.Memory.{Memory}
use Rattle.rules.specs.Opcodes.{Class, addition, multiplication, equality, small, complement, move, assert, range_check, jump, conditional_jump, call, return, load, store, tape_load, tape_store, contract_call, end, uncovered, class_of}
use Rattle.rules.specs.Operands.{Want, ignored, lacking, value, later, register, target, wants_of, value_of, fetch, Operands, operands}
use Rattle.rules.specs.Step.{Environment, State, Next, r9, read_below, operate, capacity, RunEnd, stops_at, on_finish}
use Rattle.sheets.specs.Lines.{present_of, line_words, is_short}

-- A stage's result in a traced step, which has two refusals of its own: 11 where CALL's further read finds nothing, and 19
pub data TracedResult (A : Type 0) : Type 0 where
  refuses : Refusal → TracedResult A
  unread : TracedResult A
  short : TracedResult A
  passes : A → TracedResult A

unfoldable pub after : {A B : Type 0} → Result A → (A → TracedResult B) → TracedResult B
after (refuse f) k = refuses f
after (pass a) k = k a

-- each where the test passes, else the result
unfoldable pub unread_where : {A : Type 0} → Bool → TracedResult A → TracedResult A
unread_where true r = unread
unread_where false r = r

unfoldable pub short_where : {A : Type 0} → Bool → TracedResult A → TracedResult A
short_where true r = short
short_where false r = r

abbrev pub is_refused : {A : Type 0} → Result A → Bool
is_refused (refuse f) = true
is_refused (pass a) = false

-- a number that is found after all tests
abbrev pub number_of : Result ℕ → ℕ
number_of (refuse f) = 0
number_of (pass n) = n

-- an operand's number: CJMP's op1 is asked for later, and evaluated by now
abbrev pub read_by : Want → ℕ → ℕ → ℕ
read_by ignored read evaluated = read
read_by lacking read evaluated = read
read_by value read evaluated = read
read_by later read evaluated = evaluated
read_by register read evaluated = read
read_by target read evaluated = read

-- CALL also reads the cell at R9 - 2
unfoldable pub reads_further : Class → Bool
reads_further addition = false
reads_further multiplication = false
reads_further (equality f) = false
reads_further (small f) = false
reads_further complement = false
reads_further move = false
reads_further assert = false
reads_further range_check = false
reads_further jump = false
reads_further conditional_jump = false
reads_further call = true
reads_further return = false
reads_further load = false
reads_further store = false
reads_further tape_load = false
reads_further tape_store = false
reads_further contract_call = false
reads_further end = false
reads_further uncovered = false

module _ (number_memory : Memory Held) where
  -- is it CALL, and its further cell not held? Number and moment of one that is held are not used.
  abbrev pub is_unread : Class → State number_memory → Bool
  is_unread c s = reads_further c && is_refused (read_below number_memory s.cells (r9 number_memory s) 2)

  -- op1's number, with that which is evaluated later
  abbrev pub op1_of : Environment → Class → Instruction → State number_memory → Operands → ℕ
  op1_of e c i s o = read_by (wants_of c).op1 o.op1 (number_of (value_of e.psp s.registers i.op1))

  -- the result, the number loaded or the number stored: each is in register dst after the step
  abbrev pub dst_of : Operands → Next number_memory → ℕ
  dst_of o n = get_or n.state.registers o.dst 0

  -- the line of an accepted step: clk, pc and registers are those before it
  abbrev pub line_of : Environment → Class → Instruction → State number_memory → Operands → Next number_memory → List ℕ
  line_of e c i s o n = line_words s.clk s.pc s.registers (present_of c) o.op0 (op1_of e c i s o) (dst_of o n)

  -- The traced step: fetch, operands, CALL's further read, operation, capacity, and last the sheet's

  pub record TracedState : Type 0 where
    pub plain : State number_memory
    -- those written so far
    pub lines : List (List ℕ)

  pub record TracedNext : Type 0 where
    pub next : Next number_memory
    pub line : List ℕ

  unfoldable pub traced_step : Environment → ℕ → TracedState → TracedResult TracedNext
  traced_step e sheet q =
      after (fetch e.program q.plain.pc) λ i.
      let c = class_of i.opcode in
      after (operands e.psp q.plain.registers c i) λ o.
      unread_where (is_unread c q.plain)
      (after (operate number_memory e c i q.plain o) λ n.
      after (capacity number_memory e n) λ n.
      short_where (is_short sheet (length q.lines))
      (passes (record { next = n; line = line_of e c i q.plain o n })))

  abbrev pub with_line : TracedState → TracedNext → TracedState
  with_line q n = record { plain = n.next.state; lines = q.lines ++ (n.line ∷ []) }

  -- both leave what the step before left, as every other refusal
  abbrev pub on_traced_step : TracedState → TracedResult TracedNext → (TracedState → RunEnd TracedState) → RunEnd TracedState
  on_traced_step q (refuses f) k = stops_at (Refused f) q
  on_traced_step q unread k = stops_at (Refused CellAbsent) q
  on_traced_step q short k = stops_at ShortBuffer q
  on_traced_step q (passes n) k = on_finish n.next.finish n.next.state.clk (with_line q n) k

  unfoldable pub traced_run : Environment → ℕ → ℕ → TracedState → RunEnd TracedState
  traced_run e sheet zero q = stops_at Paused q
  traced_run e sheet (suc budget) q = on_traced_step q (traced_step e sheet q) (traced_run e sheet budget)
