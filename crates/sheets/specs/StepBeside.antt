-- The traced step beside the plain step: it is the same but for two tests, CALL's further read before it and the sheet's behind it.
use Rattle.std.specs.Prelude.{ℕ, ◌≡◌, Bool, false, List, [], length}
use Rattle.rules.specs.declared.Held.{Held}
use Rattle.rules.specs.Results.{Result, refuse, pass}
use Rattle.rules.specs.Memory.{Memory}
use Rattle.rules.specs.Opcodes.{class_of}
use Rattle.rules.specs.Operands.{fetch, operands}
use Rattle.rules.specs.Step.{Environment, State, Next, step}
use Rattle.sheets.specs.Lines.{is_short}
use Rattle.sheets.specs.Traced.{TracedResult, passes, after, unread_where, short_where, is_unread, line_of, TracedState, TracedNext, traced_step}

-- where a stage passes, what follows of it; else nothing
abbrev pub test_of : {A : Type 0} → Result A → (A → Bool) → Bool
test_of (refuse f) k = false
test_of (pass a) k = k a

abbrev pub words_of : {A : Type 0} → Result A → (A → List ℕ) → List ℕ
words_of (refuse f) k = []
words_of (pass a) k = k a

module _ (number_memory : Memory Held) where
  -- the step is a CALL, its operands pass, and its further read finds nothing
  abbrev pub meets_unread : Environment → State number_memory → Bool
  meets_unread e s =
      test_of (fetch e.program s.pc) λ i.
      test_of (operands e.psp s.registers (class_of i.opcode) i) λ o.
      is_unread number_memory (class_of i.opcode) s

  -- the line of the step, where it is accepted and leaves n
  abbrev pub line_here : Environment → State number_memory → Next number_memory → List ℕ
  line_here e s n =
      words_of (fetch e.program s.pc) λ i.
      words_of (operands e.psp s.registers (class_of i.opcode) i) λ o.
      line_of number_memory e (class_of i.opcode) i s o n

  abbrev pub beside_plain : Environment → ℕ → TracedState number_memory → TracedResult (TracedNext number_memory)
  beside_plain e sheet q =
      unread_where (meets_unread e q.plain)
      (after (step number_memory e q.plain) λ n.
      short_where (is_short sheet (length q.lines))
      (passes (record { next = n; line = line_here e q.plain n })))

  pub record StepBeside : Type 0 where
    pub step : (e : Environment) (sheet : ℕ) (q : TracedState number_memory) → traced_step number_memory e sheet q ≡ beside_plain e sheet q
