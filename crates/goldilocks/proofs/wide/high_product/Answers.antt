-- `goldilocks::wide::high_product` meets its contract: no column passes 64 bits, by the bounds on the products of two halves.
use native.Mathlib.Omega.{arith}
use Rattle.goldilocks.proofs.Halves.{Small, small, high_word}
use Rattle.goldilocks.proofs.wide.high_product.Goals as goal
use Rattle.goldilocks.proofs.wide.high_product.Goals.{Start}

bounds : (c : Start) → Small c.args.u c.args.v
bounds c = small c.ranges.u.fits c.ranges.v.fits

pub overflow_mul-t : goal.overflow_mul-t
overflow_mul-t c = omega (arith, (bounds c).hl)

pub overflow_mul-t-2 : goal.overflow_mul-t-2
overflow_mul-t-2 c = omega (arith, (bounds c).ll)

pub overflow_add-t : goal.overflow_add-t
overflow_add-t c = omega (arith, (bounds c).hl, (bounds c).ll)

pub overflow_mul-w1 : goal.overflow_mul-w1
overflow_mul-w1 c = omega (arith, (bounds c).lh)

pub overflow_add-w1 : goal.overflow_add-w1
overflow_add-w1 c = omega (arith, (bounds c).lh)

pub overflow_mul-result : goal.overflow_mul-result
overflow_mul-result c = omega (arith, (bounds c).hh)

pub overflow_add-result : goal.overflow_add-result
overflow_add-result c = omega (arith, (bounds c).hh, (bounds c).hl, (bounds c).ll)

pub overflow_add-result-2 : goal.overflow_add-result-2
overflow_add-result-2 c = omega (arith, (bounds c).hh, (bounds c).hl, (bounds c).ll, (bounds c).lh)

pub returns : goal.returns
returns c = high_word c.args.u c.args.v
