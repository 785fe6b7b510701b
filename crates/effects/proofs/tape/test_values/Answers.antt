-- `effects::tape::test_values` meets its contract: below the heap's end all pass where a bound of the values does.
use mathlib.Core.Path.{sym, ◌∙◌}
use Rattle.rules.specs.Numbers.{heap_end}
use Rattle.effects.proofs.StoreTests.{tests_below}
use Rattle.effects.proofs.tape.test_values.Goals as goal

pub returns-then-is_storable : goal.returns-then-is_storable
unfolding heap_end
returns-then-is_storable c =
    let a = c.args in
    let b = c.bound_of in
    sym (tests_below a.start b.result a.values.now c.if-end-le-HEAP_END.true (sym c.is_storable.ensures ∙ c.if-is_storable.true) b.ensures)
