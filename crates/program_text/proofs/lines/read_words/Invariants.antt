-- The words before this place are in the buffer.
use Rattle.std.proofs.Common.{◌/◌, length}
use Rattle.program_text.proofs.Joining.{Joined}
use Rattle.program_text.proofs.lines.read_words.Given as goal

abbrev pub invariant-loop-i : goal.invariant-loop-i
invariant-loop-i l = Joined l.digits (length l.digits / 16) l.used l.initial.words l.words l.i
