-- `effects::tape::load_tape` meets its contract: that the part is on the tape, then the part.
use mathlib.Core.Path.{sym, ◌∙◌}
use Rattle.effects.specs.Changes.{check}
use Rattle.effects.proofs.tape.load_tape.Goals as goal

pub returns-then-not-is_on_tape : goal.returns-then-not-is_on_tape
unfolding check
returns-then-not-is_on_tape c = rw (sym c.is_on_tape.ensures ∙ c.if-not-is_on_tape.true) c.refuse.ensures

pub returns : goal.returns
unfolding check
returns c =
    rw (sym c.is_on_tape.ensures ∙ c.if-not-is_on_tape.false, ← c.tape_from.ensures, ← c.tape_count.ensures) c.load_part.ensures
