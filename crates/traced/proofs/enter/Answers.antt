-- `traced::enter` meets its contract: the entry's tests pass and the steps are made, or the call is refused 3.
use mathlib.Core.Path.{sym, ap, ◌∙◌}
use Rattle.rules.specs.declared.Ran.{Ran}
use Rattle.traced.proofs.Called.{refused-is, unfit}
use Rattle.traced.proofs.enter.Goals as goal

pub run-requires : goal.run-requires
run-requires c = record {
  words_in_bounds = c.requires;
  output_value = sym c.accepts.ensures ∙ c.if-accepts.true;
}

pub returns : goal.returns
returns c = record {
  sheet_after = unfit _ _ _ _ (sym c.accepts.ensures ∙ c.if-accepts.false) (refused-is _ _ _ _ _ _ _ _ _ c.stop.ensures);
  extras_value = ap (λ (r : Ran). r.extras) c.stop.ensures;
}
