-- `checking::check` meets its contract: the program's refusal, refusal 3, or e3.
use mathlib.Core.Path.{refl, sym, ◌∙◌}
use Rattle.rules.specs.Answers.{meaning}
use Rattle.checking.proofs.Checking.{answered}
use Rattle.checking.proofs.check.Goals as goal

pub returns-then-is_fit : goal.returns-then-is_fit
returns-then-is_fit g c = answered _ _ c.in-Ok.is (sym c.is_fit.ensures ∙ c.if-is_fit.true) _ c.check.ensures

pub returns-else-is_fit : goal.returns-else-is_fit
returns-else-is_fit g c = answered _ _ c.in-Ok.is (sym c.is_fit.ensures ∙ c.if-is_fit.false) _ c.check.ensures

pub returns-in-Err : goal.returns-in-Err
unfolding meaning
returns-in-Err g c = answered _ _ c.in-Err.is refl _ c.check.ensures
