-- `traced::stepping::copy` meets its contract: the front of the array is the buffer.
use mathlib.Core.Path.{refl, ap, ◌∙◌}
use lib.ListN.{length, take}
use Rattle.rules.proofs.Laws.OverlayLaws.{take-overlay}
use Rattle.traced.proofs.stepping.copy.Goals as goal

pub returns : goal.returns
returns g c =
    let a = c.args in
    ap (take (length a.buffer.now)) c.write_values.ensures ∙ take-overlay a.buffer.now a.array.now (length a.buffer.now) refl
