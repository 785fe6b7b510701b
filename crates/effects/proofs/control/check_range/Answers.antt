-- `effects::control::check_range` meets its contract: by the test; the limit is the rules'.
use native.Mathlib.Omega.{arith}
use borrow.Author.Tests.{le-leb, lt-leb}
use Rattle.rules.specs.Numbers.{small_end}
use Rattle.effects.specs.Changes.{check}
use Rattle.effects.proofs.control.check_range.Goals as goal

pub returns-then-a-le-SMALL_END : goal.returns-then-a-le-SMALL_END
unfolding check small_end
returns-then-a-le-SMALL_END c = rw (le-leb c.args.a small_end (omega arith)) c.jump.ensures

pub returns : goal.returns
unfolding check small_end
returns c = rw (lt-leb c.args.a small_end (omega arith)) c.refuse.ensures
