-- `entry::registers_below` meets its contract. The loop's invariant: whether all marked registers are below p is whether those from a place on
-- are, by the bits that are left.
use mathlib.Core.Path.{◌∙◌}
use native.Mathlib.Omega.{arith}
use Rattle.entry.proofs.Elements.{registers-more}
use Rattle.entry.proofs.registers_below.Goals as goal

pub loop-number-preserved : goal.loop-number-preserved
loop-number-preserved c =
    let l = c.loop-number in
    l.invariant ∙ registers-more c.args.registers l.number-index 10 l.bits (omega arith) (omega arith) cc
