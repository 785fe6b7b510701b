-- A call that paused, handed in again with a further budget, goes on as one call with both budgets would have.
use Rattle.std.specs.Prelude.{ℕ, ◌+◌, ◌≡◌, List, [], length}
use Rattle.rules.specs.declared.Instruction.{Instruction}
use Rattle.rules.specs.Results.{Result}
use Rattle.rules.specs.Answers.{outcome}
use Rattle.rules.specs.Entry.{Snapshot, GuardedSnapshot}
use Rattle.rules.specs.Calls.{Called, plain_call, guarded_call}

-- a call after so many steps of an earlier one
abbrev pub after_steps : {S : Type 0} → ℕ → Called S → Called S
after_steps k c = record { answer = c.answer; steps = k + c.steps; left = c.left }

-- the second call gets what the first one left: every used and unused element of every buffer comes out the same
pub record SplitCalls (program : Result (List Instruction)) : Type 0 where
  pub plain : (budget more : ℕ) (s : Snapshot) → length s.machine.registers ≡ 10
      → (plain_call program budget s).answer ≡ outcome 3 []
      → plain_call program (budget + more) s ≡ after_steps (plain_call program budget s).steps (plain_call program more (plain_call program budget s).left)
  pub guarded : (budget more : ℕ) (g : GuardedSnapshot) → length g.plain.machine.registers ≡ 10
      → (guarded_call program budget g).answer ≡ outcome 3 []
      → guarded_call program (budget + more) g ≡ after_steps (guarded_call program budget g).steps (guarded_call program more (guarded_call program budget g).left)
