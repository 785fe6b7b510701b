-- `effects::calls::call` meets its contract: by whether there is an address below R9.
use native.Mathlib.Omega.{arith}
use borrow.Author.Tests.{le-leb, lt-leb}
use Rattle.effects.specs.Changes.{check}
use Rattle.effects.proofs.calls.call.Goals as goal

pub returns-then-r9-eq0 : goal.returns-then-r9-eq0
unfolding check
returns-then-r9-eq0 c = rw (lt-leb 1 c.args.r9 (omega arith)) (c.refuse.ensures _)

pub returns : goal.returns
unfolding check
returns c = rw (le-leb 1 c.args.r9 (omega arith)) c.store_cell.ensures
