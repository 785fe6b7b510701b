-- `traced::stepping::try_step` meets its contract: the buffers are no longer than their copies.
use native.Mathlib.Omega.{arith}
use Rattle.traced.proofs.PlainSteps.{Short, short-buffers}
use Rattle.traced.proofs.stepping.try_step.Goals as goal
use Rattle.traced.proofs.stepping.try_step.Goals.{Start}

short : (s : Start) → let a = s.args in Short a.machine a.addresses.now a.numbers.now a.moments.now a.tape.now a.output.now
short s = let a = s.args in short-buffers a.machine a.addresses.now a.numbers.now a.moments.now a.tape.now a.output.now s.requires.output_value

pub copy-requires : goal.copy-requires
copy-requires c = (omega arith, (short (goal.at.copy-requires c).Start).addresses)

pub copy-requires-2 : goal.copy-requires-2
copy-requires-2 c = (omega arith, (short (goal.at.copy-requires-2 c).Start).numbers)

pub copy-requires-3 : goal.copy-requires-3
copy-requires-3 c = (omega arith, (short (goal.at.copy-requires-3 c).Start).moments)

pub copy-requires-4 : goal.copy-requires-4
copy-requires-4 c = (omega arith, (short (goal.at.copy-requires-4 c).Start).tapes)

pub copy-requires-5 : goal.copy-requires-5
copy-requires-5 c = (omega arith, (short (goal.at.copy-requires-5 c).Start).outputs)
