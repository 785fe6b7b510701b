-- `entry::registers_below` meets its contract. The loop's invariant: whether all marked registers are below p is whether those from a place on
-- are, by the bits that are left.
use mathlib.Core.Path.{◌≡◌}
use Prim.Native.Nat.{◌-◌}
use lib.ListN.{drop}
use Rattle.rules.specs.Entry.{low_bits, marked_below}
use Rattle.entry.proofs.registers_below.Given as goal

abbrev pub invariant-loop-number : goal.invariant-loop-number
invariant-loop-number l =
    marked_below (low_bits 10 l.word) l.fn.registers ≡ marked_below (low_bits (10 - l.number-index) l.bits) (drop l.number-index l.fn.registers)
