-- `effects::memory::store_cell` meets its contract: the tests, then the place, then capacity for a new cell.
use Rattle.std.specs.Prelude.{Ok}
use mathlib.Core.Path.{◌≡◌, sym, ap, ◌∙◌}
use native.Mathlib.Omega.{arith}
use borrow.Author.Rules.{rules}
use Rattle.hardware.specs.Buffers.{found_of}
use Rattle.effects.specs.Changes.{check}
use Rattle.effects.specs.Operations.{test_of}
use Rattle.effects.proofs.StoreTests.{capacity-none}
use Rattle.effects.proofs.memory.store_cell.Goals as goal
use Rattle.effects.proofs.memory.store_cell.Goals.{In_default}

pub returns-in-Err : goal.returns-in-Err
returns-in-Err c = rw (sym c.test_store.ensures ∙ c.in-Err.is) (c.refuse.ensures _)

pub returns-in-Err-2 : goal.returns-in-Err-2
unfolding check
returns-in-Err-2 c =
    let s = c.args in
    let l = s.cells.addresses.now in
    let e = sym (c.find.ensures ∙ ap (λ l. found_of l s.address) c.used.ensures) ∙ c.in-Err-2.is in
    let passes : test_of s.address s.number ≡ Ok tt = search rules in
    rw (passes, capacity-none s.cells.count l s.address _ (omega arith) e)
    (c.refuse-in-Err-2.ensures _)
