-- `effects::memory::store` meets its contract: by whether the sum is an element.
use Rattle.effects.proofs.memory.store.Goals as goal

pub returns-in_default : goal.returns-in_default
returns-in_default c = rw c.in_default.is (c.refuse.ensures _)

pub returns : goal.returns
returns c = rw c.in-Some.is c.store_cell.ensures
