-- `storing::tape::write_values` meets its contract. The loop's invariant: the first i values are written.
use mathlib.Core.Path.{◌≡◌}
use lib.ListN.{take}
use Rattle.rules.specs.Step.{overlay}
use Rattle.storing.proofs.tape.write_values.Given as goal

abbrev pub invariant-loop-i : goal.invariant-loop-i
invariant-loop-i l = l.free ≡ overlay (take l.i l.values) l.initial.free
