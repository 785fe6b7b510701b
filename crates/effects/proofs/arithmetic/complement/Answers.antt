-- `effects::arithmetic::complement` meets its contract: by whether the operand is an element.
use mathlib.Core.Path.{sym, ◌∙◌}
use Rattle.rules.specs.Field.{is_element, field_complement}
use Rattle.goldilocks.proofs.Elements.{element, none}
use Rattle.effects.specs.Changes.{check}
use Rattle.effects.proofs.arithmetic.complement.Goals as goal

pub returns-in_default : goal.returns-in_default
unfolding check
returns-in_default c = rw (none (is_element c.args.a) (field_complement c.args.a) (sym c.complement.ensures ∙ c.in_default.is)) c.refuse.ensures

pub returns : goal.returns
unfolding check
returns c =
    let e = element (is_element c.args.a) (field_complement c.args.a) c.in-Some.x (sym c.complement.ensures ∙ c.in-Some.is) in
    rw (e.0, ← e.1) c.set_register.ensures
