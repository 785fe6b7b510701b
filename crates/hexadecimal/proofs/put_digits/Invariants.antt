-- The loop's invariant: what is left to write, laid over the buffer as it stands, gives what all digits laid over the buffer at entry give.
use Rattle.std.proofs.Common.{◌≡◌, ◌-◌}
use Rattle.rules.specs.Hexadecimal.{low_digits}
use Rattle.hexadecimal.specs.Writing.{overlay_at}
use Rattle.hexadecimal.proofs.put_digits.Given as goal

abbrev pub invariant-loop-written : goal.invariant-loop-written
invariant-loop-written l = overlay_at l.buffer l.at (low_digits (l.n - l.written) l.rest) ≡ overlay_at l.initial.buffer l.at (low_digits l.n l.v)
