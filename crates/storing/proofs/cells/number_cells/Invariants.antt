-- `storing::cells::number_cells` meets its contract. The loop's invariant: the first i addresses are written.
use mathlib.Core.Path.{◌≡◌}
use lib.ListN.{length, take}
use Rattle.rules.specs.Step.{overlay}
use Rattle.hardware.specs.Places.{consecutive}
use Rattle.storing.proofs.cells.number_cells.Given as goal

abbrev pub invariant-loop-i : goal.invariant-loop-i
invariant-loop-i l = l.addresses ≡ overlay (take l.i (consecutive l.start (length l.initial.addresses))) l.initial.addresses
