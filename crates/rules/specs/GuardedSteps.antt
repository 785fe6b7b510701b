-- Marks and sinks of every guarded step, as the machine computes them and as the rules give them: MarkRules and SinkRules, both ways.
use Rattle.std.specs.Prelude.{◌≡◌, Bool, ◌↔◌, length}
use Rattle.rules.specs.declared.Instruction.{Instruction}
use Rattle.rules.specs.declared.Refusal.{Refusal}
use Rattle.rules.specs.Results as Results
use Rattle.rules.specs.Results.{refuse, sink, passes}
use Rattle.rules.specs.Cells.{number_cells, mark_cells}
use Rattle.rules.specs.Operands.{Operands}
use Rattle.rules.specs.Step.{Environment, State, Finish, step}
use Rattle.rules.specs.Guarded.{MarkState, GuardedState, GuardedNext, guarded_step}
use Rattle.rules.specs.LoadedRegisters.{AllInRange}
use Rattle.rules.specs.MarkRules.{Place, Marking, marking_of, MarkedAfter}
use Rattle.rules.specs.SinkRules.{InstructionRead, ReachesSink, AcceptedStep}

-- the guarded step is accepted: it leaves the run by f, and leaves a state and the marks of its places
pub record Accepts (e : Environment) (q : GuardedState number_cells mark_cells) (f : Finish) (s : State number_cells) (t : Marking) : Type 0 where
  pub marks : MarkState mark_cells
  pub accepted : guarded_step number_cells mark_cells e q ≡ passes (record { next = record { state = s; finish = f }; marks = marks })
  pub places : (x : Place) → marking_of marks x ≡ t x

pub record StepByRules (e : Environment) (q : GuardedState number_cells mark_cells) : Type 0 where
  -- 18 exactly where the step reaches a sink
  pub sinks : (guarded_step number_cells mark_cells e q ≡ sink) ↔ ReachesSink e q.plain (marking_of q.marks)
  -- another refusal exactly where the step reaches none and the plain step is refused so
  pub refuses : (f : Refusal)
      → (guarded_step number_cells mark_cells e q ≡ Results.refuses f)
      ↔ ((ReachesSink e q.plain (marking_of q.marks) → ⊥) × (step number_cells e q.plain ≡ refuse f))
  -- accepted exactly where the rules accept it: going on, ending, calling or delegating, and at any clk, so the step of 17 too
  pub accepts : (f : Finish) (s : State number_cells) (t : Marking) → Accepts e q f s t ↔ AcceptedStep e q.plain (marking_of q.marks) f s t
  -- then a place has a mark exactly where the rules give it that mark
  pub marks : (n : GuardedNext number_cells mark_cells) → guarded_step number_cells mark_cells e q ≡ passes n
      → {i : Instruction} {o : Operands} → InstructionRead e q.plain i o → (x : Place) (b : Bool)
      → MarkedAfter (marking_of q.marks) i q.plain o i.opcode x b ↔ (marking_of n.marks x ≡ b)
  -- and the registers' marks are ten again
  pub ten : (n : GuardedNext number_cells mark_cells) → guarded_step number_cells mark_cells e q ≡ passes n → length n.marks.registers ≡ 10

-- The theorem: of a program that names R0 to R9 alone, as every loaded one does, from every state with marks for these ten

abbrev pub GuardedSteps : Type 0
GuardedSteps = (e : Environment) → AllInRange e.program → (q : GuardedState number_cells mark_cells) → length q.marks.registers ≡ 10 → StepByRules e q
