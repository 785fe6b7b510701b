-- `storing::cells::write_held` meets its contract. The loop's invariant: the first i values are written, and as many moments.
use mathlib.Core.Path.{◌≡◌}
use lib.ListN.{take}
use Rattle.hardware.specs.Places.{overwritten, filled}
use Rattle.storing.proofs.cells.write_held.Given as goal

abbrev pub invariant-loop-i : goal.invariant-loop-i
invariant-loop-i l =
    (l.numbers ≡ overwritten l.at (take l.i l.values) l.initial.numbers) × (l.moments ≡ overwritten l.at (take l.i (filled l.moment l.values)) l.initial.moments)
