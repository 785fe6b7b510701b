-- What is handed in, and what a step gives, in the rules' words.
use Rattle.std.specs.Prelude.{ℕ, List}
use Rattle.rules.specs.declared.Machine.{Machine}
use Rattle.rules.specs.Answers.{meaning}
use Rattle.rules.specs.Entry.{Snapshot, GuardedSnapshot}
use Rattle.rules.specs.Calls.{Called}
use Rattle.rules.specs.Handed.{snapshot, guarded_snapshot}
use Rattle.machine.specs.declared.Answered.{Answered}
use Rattle.machine.specs.declared.GuardedMachine.{GuardedMachine}

-- the answer by its number and values, the steps, and all that was handed in as it is afterwards
abbrev pub stepped : Machine → Answered → List ℕ → List ℕ → List ℕ → List ℕ → List ℕ → Called Snapshot
stepped m r xs ns ms tape output = record { answer = meaning r.answer; steps = r.steps; left = snapshot m xs ns ms tape output }

abbrev pub record_snapshot : GuardedMachine → List ℕ → List ℕ → List ℕ → List ℕ → List ℕ → List ℕ → GuardedSnapshot
record_snapshot m = guarded_snapshot m.machine m.extras

abbrev pub guarded_stepped : GuardedMachine → Answered → List ℕ → List ℕ → List ℕ → List ℕ → List ℕ → List ℕ → Called GuardedSnapshot
guarded_stepped m r xs ns ms ts tape output =
    record { answer = meaning r.answer; steps = r.steps; left = record_snapshot m xs ns ms ts tape output }
