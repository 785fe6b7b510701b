-- The lines of the values from this place on are left.
use Rattle.std.proofs.Common.{drop}
use Rattle.rules.specs.Solve.{value_lines}
use Rattle.report.proofs.Placing.{Rest}
use Rattle.report.proofs.lines.put_values.Given as goal

abbrev pub invariant-loop-v : goal.invariant-loop-v
invariant-loop-v l = Rest (value_lines l.values) l.initial.buffer l.from (value_lines (drop l.v-index l.values)) l.buffer l.at
