-- The traced step is the plain step, but for two tests.
use Prim.Native.Nat.{ℕ}
use mathlib.Core.Path.{◌≡◌, refl}
use mathlib.Core.List.{List}
use lib.ListN.{length}
use Rattle.rules.specs.declared.Instruction.{Instruction}
use Rattle.rules.specs.declared.Held.{Held}
use Rattle.rules.specs.Results.{Result, refuse, pass, bind}
use Rattle.rules.specs.Memory.{Memory}
use Rattle.rules.specs.Opcodes.{class_of}
use Rattle.rules.specs.Operands.{fetch, Operands, operands}
use Rattle.rules.specs.Step.{Environment, State, Next, operate, capacity, step}
use Rattle.sheets.specs.Lines.{is_short}
use Rattle.sheets.specs.Traced.{TracedResult, passes, after, unread_where, short_where, is_unread, line_of, TracedState, TracedNext, traced_step}
use Rattle.sheets.specs.StepBeside.{test_of, words_of, beside_plain, StepBeside}

module _ (number_memory : Memory Held) (e : Environment) (sheet : ℕ) (q : TracedState number_memory) where
  abbrev s : State number_memory
  s = q.plain

  -- the sheet's test, before a line
  abbrev lined : (Next number_memory → List ℕ) → Next number_memory → TracedResult (TracedNext number_memory)
  lined l n = short_where (is_short sheet (length q.lines)) (passes (record { next = n; line = l n }))

  on-operate : (r : Result (Next number_memory)) (k : Next number_memory → TracedResult (TracedNext number_memory))
      → (after r λ n. after (capacity number_memory e n) k) ≡ after (bind r λ n. capacity number_memory e n) k
  unfolding after bind
  on-operate (refuse f) k = refl
  on-operate (pass n) k = refl

  -- of an instruction whose operands were read
  on-operands : (i : Instruction) (r : Result Operands)
      → (after r λ o. unread_where (is_unread number_memory (class_of i.opcode) s)
      (after (operate number_memory e (class_of i.opcode) i s o) λ n. after (capacity number_memory e n)
      (lined (line_of number_memory e (class_of i.opcode) i s o))))
      ≡ unread_where (test_of r λ o. is_unread number_memory (class_of i.opcode) s)
      (after (bind r λ o. bind (operate number_memory e (class_of i.opcode) i s o) λ n. capacity number_memory e n)
      (lined λ n. words_of r λ o. line_of number_memory e (class_of i.opcode) i s o n))
  unfolding after bind unread_where
  on-operands i (refuse f) = refl
  on-operands i (pass o) =
      λ j. unread_where (is_unread number_memory (class_of i.opcode) s)
      (on-operate (operate number_memory e (class_of i.opcode) i s o) (lined (line_of number_memory e (class_of i.opcode) i s o)) j)

  on-fetch : (r : Result Instruction)
      → (after r λ i. after (operands e.psp s.registers (class_of i.opcode) i) λ o. unread_where (is_unread number_memory (class_of i.opcode) s)
      (after (operate number_memory e (class_of i.opcode) i s o) λ n. after (capacity number_memory e n)
      (lined (line_of number_memory e (class_of i.opcode) i s o))))
      ≡ unread_where (test_of r λ i. test_of (operands e.psp s.registers (class_of i.opcode) i) λ o. is_unread number_memory (class_of i.opcode) s)
      (after (bind r λ i. bind (operands e.psp s.registers (class_of i.opcode) i) λ o. bind (operate number_memory e (class_of i.opcode) i s o) λ n. capacity number_memory e n)
      (lined λ n. words_of r λ i. words_of (operands e.psp s.registers (class_of i.opcode) i) λ o. line_of number_memory e (class_of i.opcode) i s o n))
  unfolding after bind unread_where
  on-fetch (refuse f) = refl
  on-fetch (pass i) = on-operands i (operands e.psp s.registers (class_of i.opcode) i)

  pub traced-beside : traced_step number_memory e sheet q ≡ beside_plain number_memory e sheet q
  unfolding traced_step step
  traced-beside = on-fetch (fetch e.program s.pc)

pub step-beside : (number_memory : Memory Held) → StepBeside number_memory
step-beside number_memory = record { step = traced-beside number_memory }
