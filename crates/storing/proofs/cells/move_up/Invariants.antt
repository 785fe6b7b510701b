-- `storing::cells::move_up` meets its contract. The loop's invariant: the elements from i on are moved.
use Prim.Native.Nat.{◌+◌, ◌≤◌}
use mathlib.Core.Path.{◌≡◌}
use Rattle.hardware.specs.Places.{moved}
use Rattle.storing.proofs.cells.move_up.Given as goal

abbrev pub invariant-loop-i : goal.invariant-loop-i
invariant-loop-i l = (l.from ≤ l.i) × (l.buffer ≡ moved l.count l.i (l.i + l.n) l.initial.buffer)
