-- `goldilocks::wide::low_product` meets its contract: no column passes 64 bits, by the bounds on the products of two halves.
use native.Mathlib.Omega.{arith}
use Rattle.goldilocks.proofs.Halves.{Small, small, low_word}
use Rattle.goldilocks.proofs.wide.low_product.Goals as goal
use Rattle.goldilocks.proofs.wide.low_product.Goals.{Start}

bounds : (c : Start) → Small c.args.u c.args.v
bounds c = small c.ranges.u.fits c.ranges.v.fits

pub overflow_mul-w0 : goal.overflow_mul-w0
overflow_mul-w0 c = omega (arith, (bounds c).ll)

pub overflow_mul-t : goal.overflow_mul-t
overflow_mul-t c = omega (arith, (bounds c).hl)

pub overflow_add-t : goal.overflow_add-t
overflow_add-t c = omega (arith, (bounds c).hl, (bounds c).ll)

pub overflow_mul-w1 : goal.overflow_mul-w1
overflow_mul-w1 c = omega (arith, (bounds c).lh)

pub overflow_add-w1 : goal.overflow_add-w1
overflow_add-w1 c = omega (arith, (bounds c).lh)

pub returns : goal.returns
returns c = low_word c.args.u c.args.v
