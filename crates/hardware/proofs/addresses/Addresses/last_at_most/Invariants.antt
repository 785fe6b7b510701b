-- `hardware::addresses::Addresses::last_at_most` meets its contract. The first loop's invariant: the last that is at most `address` lies among
-- the places from low on that are left. The second's: `last` is the last of the first low + i.
use Prim.Native.Nat.{suc, ◌+◌, ◌-◌, min, ◌≤◌}
use mathlib.Core.Path.{◌≡◌}
use lib.ListN.{length}
use Rattle.hardware.specs.Buffers.{rank, last_at_most}
use Rattle.hardware.proofs.addresses.Addresses.last_at_most.Given as goal

abbrev pub invariant-loop-left : goal.invariant-loop-left
invariant-loop-left l = (l.low ≤ last_at_most l.used l.address) × (rank l.used (suc l.address) ≤ l.low + l.left) × (l.low + l.left ≤ length l.used)

abbrev pub decreases-loop-left : goal.decreases-loop-left
decreases-loop-left l = l.left

abbrev pub invariant-loop-i : goal.invariant-loop-i
invariant-loop-i l = l.last ≡ min (rank l.used (suc l.address)) (l.low + l.i) - 1
