-- `transcript::input::play` keeps what is left of a line within the buffer.
use Rattle.std.proofs.Common.{◌≤◌, length}
use Rattle.transcript.proofs.input.play.Given as goal

abbrev pub invariant-loop : goal.invariant-loop
invariant-loop g l = l.rest ≤ length l.buffer
