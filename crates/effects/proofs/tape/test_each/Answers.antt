-- `effects::tape::test_each` meets its contract: what is left of the tests is all that is left of the whole.
use Prim.Native.Nat.{◌+◌}
use mathlib.Core.Path.{sym, ◌∙◌}
use native.Mathlib.Omega.{arith}
use Rattle.std.proofs.lemmas.Result.{err_from_is_err_and}
use Rattle.effects.proofs.StoreTests.{tests-pass, tests-refuse, tests-end}
use Rattle.effects.proofs.tape.test_each.Goals as goal

pub returns-in_err-test_store : goal.returns-in_err-test_store
returns-in_err-test_store c =
    let s = c.args in
    let p = err_from_is_err_and c.from_residual.result c.from_residual.ensures.1 in
    rw (p.1, p.2)
    (sym (c.loop-i.invariant ∙ tests-refuse s.start s.values.now c.loop-i.i c.loop-i-test.true (sym c.test_store.ensures ∙ c.in_err-test_store.was)))

pub loop-i-preserved : goal.loop-i-preserved
loop-i-preserved c =
    let s = c.args in
    c.loop-i.invariant ∙ tests-pass s.start s.values.now c.loop-i.i c.loop-i-test.true (sym c.test_store.ensures ∙ c.in_ok-test_store.was)

pub returns : goal.returns
returns c =
    let s = c.args in
    sym (c.loop-i.invariant ∙ tests-end (s.start + c.loop-i.i) s.values.now c.loop-i.i (omega arith))
