-- `effects::tape::load_part` meets its contract: the end of the words, the tests of each cell, capacity.
use mathlib.Core.Path.{◌≡◌, sym, ap, ◌∙◌}
use Rattle.effects.specs.Changes.{check}
use Rattle.effects.specs.Operations.{tests_of}
use lib.ListN.{take, drop}
use Rattle.effects.proofs.TapeParts.{part-between}
use Rattle.effects.proofs.tape.load_part.Goals as goal
use Rattle.effects.proofs.tape.load_part.Goals.{After-test_values}

tested : (c : After-test_values) → let s = c.args in
    tests_of s.address (take s.n (drop s.from s.tape.now)) ≡ c.test_values.result
tested c = let s = c.args in ap (tests_of s.address) (sym (part-between s.from s.n s.tape.now)) ∙ sym c.test_values.ensures

pub returns-then-reaches_word_end : goal.returns-then-reaches_word_end
unfolding check
returns-then-reaches_word_end c = rw (← c.reaches_word_end.ensures, c.if-reaches_word_end.true) c.refuse.ensures

pub returns-in-Err : goal.returns-in-Err
unfolding check
returns-in-Err c =
    rw (← c.reaches_word_end.ensures, c.if-reaches_word_end.false, tested (goal.at.returns-in-Err c).After-test_values ∙ c.in-Err.is)
    c.refuse-in-Err.ensures

pub returns-then-not-has_capacity : goal.returns-then-not-has_capacity
unfolding check
returns-then-not-has_capacity c =
    rw (
      ← c.reaches_word_end.ensures,
      c.if-reaches_word_end.false,
      tested (goal.at.returns-then-not-has_capacity c).After-test_values ∙ c.in_default.is,
      sym c.has_capacity.ensures ∙ c.if-not-has_capacity.true,
    ) c.refuse-then-not-has_capacity.ensures

pub returns : goal.returns
unfolding check
returns c =
    rw (
      ← c.reaches_word_end.ensures,
      c.if-reaches_word_end.false,
      tested (goal.at.returns c).After-test_values ∙ c.in_default.is,
      sym c.has_capacity.ensures ∙ c.if-not-has_capacity.false,
    ) c.load_tape.ensures
