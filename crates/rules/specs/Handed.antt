-- What the code is handed, and what it gives, in the rules' words.
use Rattle.std.specs.Prelude.{ℕ, List}
use Rattle.rules.specs.declared.Machine.{Machine}
use Rattle.rules.specs.declared.Marks.{Marks}
use Rattle.rules.specs.declared.Ran.{Ran}
use Rattle.rules.specs.Answers.{meaning}
use Rattle.rules.specs.Entry.{Snapshot, GuardedSnapshot}
use Rattle.rules.specs.Calls.{Called}

-- a machine and its buffers: addresses, numbers, moments, tape, output
abbrev pub snapshot : Machine → List ℕ → List ℕ → List ℕ → List ℕ → List ℕ → Snapshot
snapshot m xs ns ms tape output = record { machine = m; addresses = xs; numbers = ns; moments = ms; tape = tape; output = output }

-- a guarded one: also the registers' marks and, after the moments, those of the cells
abbrev pub guarded_snapshot : Machine → Marks → List ℕ → List ℕ → List ℕ → List ℕ → List ℕ → List ℕ → GuardedSnapshot
guarded_snapshot m extras xs ns ms ts tape output = record { plain = snapshot m xs ns ms tape output; marks = ts; extras = extras }

-- what a call gives: the answer by its number and values, the steps, and all that was handed in as it is afterwards
abbrev pub called : Ran → List ℕ → List ℕ → List ℕ → List ℕ → List ℕ → Called Snapshot
called r xs ns ms tape output = record { answer = meaning r.answer; steps = r.steps; left = snapshot r.machine xs ns ms tape output }

abbrev pub guarded_called : Ran → List ℕ → List ℕ → List ℕ → List ℕ → List ℕ → List ℕ → Called GuardedSnapshot
guarded_called r xs ns ms ts tape output =
    record { answer = meaning r.answer; steps = r.steps; left = guarded_snapshot r.machine r.extras xs ns ms ts tape output }

-- no register is marked
abbrev pub no_marks : Marks
no_marks = record { registers = 0 }
