-- Every accepted step adds one to clk.
use Prim.Native.Nat.{suc}
use mathlib.Core.Path.{◌≡◌, refl}
use Rattle.rules.specs.declared.Instruction.{Instruction}
use Rattle.rules.specs.Cells.{number_cells, mark_cells}
use Rattle.rules.specs.Opcodes.{Class, addition, multiplication, equality, small, complement, move, assert, range_check, jump, conditional_jump, call, return, load, store, tape_load, tape_store, contract_call, end, uncovered, class_of}
use Rattle.rules.specs.Operands.{Operands}
use Rattle.rules.specs.Step.{Environment, State, Next, operate, step}
use Rattle.rules.specs.Guarded.{GuardedState, guarded_rest, guarded_step}
use Rattle.rules.proofs.Laws.Passing.{Passing, passing-refused, passed, passing-require, passing-bind, passing-any, PassingGuarded, passed-guarded, passing-after, passing-after-any, passing-guard}

abbrev Ticked : State number_cells → Next number_cells → Type 0
Ticked s n = n.state.clk ≡ suc s.clk

operate-ticks : (e : Environment) (i : Instruction) (s : State number_cells) (o : Operands) (c : Class) → Passing (Ticked s) (operate number_cells e c i s o)
unfolding operate
operate-ticks e i s o addition = passing-require _ λ a. passing-require _ λ b. passed refl
operate-ticks e i s o multiplication = passing-require _ λ a. passing-require _ λ b. passed refl
operate-ticks e i s o (equality f) = passed refl
operate-ticks e i s o (small f) = passing-require _ λ a. passing-require _ λ b. passed refl
operate-ticks e i s o complement = passing-require _ λ a. passed refl
operate-ticks e i s o move = passed refl
operate-ticks e i s o assert = passing-require _ λ a. passed refl
operate-ticks e i s o range_check = passing-require _ λ a. passed refl
operate-ticks e i s o jump = passed refl
operate-ticks e i s o conditional_jump = passing-require _ λ a. passing-any _ _ λ b. passed refl
operate-ticks e i s o call = passing-require _ λ a. passing-any _ _ λ c. passed refl
operate-ticks e i s o return = passing-any _ _ λ pc. passing-any _ _ λ r. passed refl
operate-ticks e i s o load = passing-require _ λ a. passing-require _ λ b. passing-any _ _ λ v. passed refl
operate-ticks e i s o store = passing-require _ λ a. passing-require _ λ b. passing-any _ _ λ c. passed refl
operate-ticks e i s o tape_load = passing-require _ λ a. passing-require _ λ b. passing-any _ _ λ c. passed refl
operate-ticks e i s o tape_store = passing-any _ _ λ vs. passed refl
operate-ticks e i s o contract_call = passing-any _ _ λ vs. passed refl
operate-ticks e i s o end = passed refl
operate-ticks e i s o uncovered = passing-refused

pub step-ticks : (e : Environment) (s : State number_cells) → Passing (Ticked s) (step number_cells e s)
unfolding step
step-ticks e s =
    passing-any _ _ λ i.
    passing-any _ _ λ o.
    passing-bind _ (operate-ticks e i s o (class_of i.opcode)) λ n k.
    passing-require _ λ a. passed k

pub guarded-step-ticks : (e : Environment) (q : GuardedState number_cells mark_cells)
    → PassingGuarded (λ n. Ticked q.plain n.next) (guarded_step number_cells mark_cells e q)
unfolding guarded_step guarded_rest
guarded-step-ticks e q =
    passing-after-any _ _ λ i.
    passing-after-any _ _ λ o.
    passing-guard _
    (passing-after _ (operate-ticks e i q.plain o (class_of i.opcode)) λ n k.
    passing-guard _
    (passing-after _ (passing-require {P = Ticked q.plain} _ λ a. passed k) λ n l. passed-guarded l))
