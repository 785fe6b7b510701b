-- `hexadecimal::digit_count` meets its contract: four bits are a digit.
use mathlib.Core.Path.{sym}
use Rattle.hexadecimal.proofs.Writing.{bits-count}
use Rattle.hexadecimal.proofs.digit_count.Goals as goal

pub returns : goal.returns
returns c =
    let p = rw c.max.ensures at c.ilog2.ensures.power_le in
    let q = rw c.max.ensures at c.ilog2.ensures.next_power_gt in
    sym (bits-count c.args.v c.ilog2.result p q c.ilog2.ensures.bound)
