-- Both calls as one, by a flag. With it they are the guarded ones; without it the plain ones, and marks rest.
use Rattle.std.specs.Prelude.{ℕ, ◌≡◌, Bool, true, false, List, []}
use Rattle.rules.specs.declared.Instruction.{Instruction}
use Rattle.rules.specs.Results.{Result}
use Rattle.rules.specs.Entry.{Snapshot, GuardedSnapshot, plain_entry, guarded_entry}
use Rattle.rules.specs.Calls.{Called, plain_call, guarded_call}
use Rattle.effects.specs.declared.Mode.{Mode}
use Rattle.interpreter.specs.Runs.{handed}
use Rattle.checking.specs.declared.HandedIn.{HandedIn}

unfoldable pub mode_entry : Bool → GuardedSnapshot → Bool
mode_entry true g = guarded_entry g
mode_entry false g = plain_entry g.plain

-- a plain call beside marks that rest
abbrev pub call_beside : GuardedSnapshot → Called Snapshot → Called GuardedSnapshot
call_beside g c = record { answer = c.answer; steps = c.steps; left = record { plain = c.left; marks = g.marks; extras = g.extras } }

unfoldable pub mode_call : Bool → Result (List Instruction) → ℕ → GuardedSnapshot → Called GuardedSnapshot
mode_call true program budget g = guarded_call program budget g
mode_call false program budget g = call_beside g (plain_call program budget g.plain)

-- a plain call is handed no marks
abbrev pub PlainHasNoMarks : Mode → List ℕ → Type 0
PlainHasNoMarks mode ts = mode.guarded ≡ false → (ts ≡ []) × (mode.extras.registers ≡ 0)

-- what is handed in, to be read
abbrev pub handed_in : HandedIn → GuardedSnapshot
handed_in h = handed h.mode h.machine h.addresses.now h.numbers.now h.moments.now h.marks.now h.tape.now h.output.now
