-- `effects::control::assert_one` meets its contract: by the test.
use borrow.Author.Tests.{eq-eqb, ne_eqb}
use Rattle.effects.specs.Changes.{check}
use Rattle.effects.proofs.control.assert_one.Goals as goal

pub returns-then-a-eq1 : goal.returns-then-a-eq1
unfolding check
returns-then-a-eq1 c = rw (eq-eqb _ _ c.if-a-eq1.true) c.jump.ensures

pub returns : goal.returns
unfolding check
returns c = rw (ne_eqb _ _ c.if-a-eq1.false) c.refuse.ensures
