-- `effects::memory::test_store` meets its contract: the number's test, then the one of the address's region.
use mathlib.Core.Path.{sym, ap, ◌∙◌}
use mathlib.Core.Logic.{inl, inr}
use borrow.Author.Rules.{rules}
use borrow.Author.Tests.{not-true, not-false}
use Rattle.effects.proofs.StoreTests.{region_test, test-region, test-number}
use Rattle.effects.proofs.memory.test_store.Goals as goal

pub returns-then-not-is_storable : goal.returns-then-not-is_storable
returns-then-not-is_storable c = sym (test-number c.args.address c.args.number (sym c.is_storable.ensures ∙ not-true _ c.if-not-is_storable.true-raw))

pub returns-in-Stack : goal.returns-in-Stack
returns-in-Stack c =
    let s = c.args in
    let e = test-region s.address s.number (search rules) in
    elim c.in-Stack.is [ inl h ↦ sym (e ∙ ap region_test (sym c.of.ensures ∙ h)) | inr h ↦ sym (e ∙ ap region_test (sym c.of.ensures ∙ h)) ]

pub returns-in-Prophet : goal.returns-in-Prophet
returns-in-Prophet c =
    let s = c.args in
    sym (test-region s.address s.number (sym c.is_storable.ensures ∙ not-false _ c.if-not-is_storable.false-raw) ∙ ap region_test (sym c.of.ensures ∙ c.in-Prophet.is))

pub returns-in-Outside : goal.returns-in-Outside
returns-in-Outside c =
    let s = c.args in
    sym (test-region s.address s.number (sym c.is_storable.ensures ∙ not-false _ c.if-not-is_storable.false-raw) ∙ ap region_test (sym c.of.ensures ∙ c.in-Outside.is))
