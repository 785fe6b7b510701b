-- All lines fit where those of the values from this place on fit in the places left.
use Rattle.std.proofs.Common.{◌≡◌, leb, length, drop}
use Rattle.rules.specs.Solve.{value_lines}
use Rattle.report.proofs.lines.values_fit.Given as goal

abbrev pub invariant-loop-v : goal.invariant-loop-v
invariant-loop-v l = leb (length (value_lines l.values)) l.places ≡ leb (length (value_lines (drop l.v-index l.values))) l.left
