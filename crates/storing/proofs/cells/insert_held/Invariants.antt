-- `storing::cells::insert_held` meets its contract. The loop's invariant: in each buffer the elements from i on are moved up by one.
use Prim.Native.Nat.{◌+◌, ◌≤◌}
use mathlib.Core.Path.{◌≡◌}
use Rattle.hardware.specs.Places.{moved}
use Rattle.storing.proofs.cells.insert_held.Given as goal

abbrev pub invariant-loop-i : goal.invariant-loop-i
invariant-loop-i l =
    (l.at ≤ l.i) × (l.numbers ≡ moved l.count l.i (l.i + 1) l.initial.numbers) × (l.moments ≡ moved l.count l.i (l.i + 1) l.initial.moments)
