-- `effects::memory::load` meets its contract: by whether the sum is an element, and by the cell there.
use mathlib.Core.Path.{sym, ◌∙◌}
use Rattle.effects.proofs.memory.load.Goals as goal

pub returns-in_default : goal.returns-in_default
returns-in_default c = rw c.in_default.is c.refuse.ensures

pub returns-in-Some-read : goal.returns-in-Some-read
returns-in-Some-read c = rw (c.in-Some.is, sym c.read.ensures ∙ c.in-Some-read.is) c.set_register.ensures

pub returns-in-None : goal.returns-in-None
returns-in-None c = rw (c.in-Some.is, sym c.read.ensures ∙ c.in-None.is) c.refuse-in-None.ensures
