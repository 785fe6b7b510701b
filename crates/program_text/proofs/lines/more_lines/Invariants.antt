-- The lines that are left, beside those that were passed.
use Rattle.std.proofs.Common.{◌≡◌, ◌+◌, ◌≤◌, length}
use Rattle.rules.specs.Text.{lines_of}
use Rattle.program_text.proofs.lines.more_lines.Given as goal

abbrev pub invariant-loop : goal.invariant-loop
invariant-loop l = (length l.rest ≤ length l.text) × (length (lines_of l.text) ≡ l.counter + length (lines_of l.rest))
