-- `effects::arithmetic::sum` meets its contract: by the result.
use Rattle.effects.proofs.arithmetic.sum.Goals as goal

pub returns-in_default : goal.returns-in_default
returns-in_default c = rw c.in_default.is c.refuse.ensures

pub returns : goal.returns
returns c = rw c.in-Some.is c.set_register.ensures
