-- `calling::runs::load_and_enter` meets its contract: the words are loaded and the call is theirs, or they are refused.
use mathlib.Core.Path.{ap, sym, ◌∙◌}
use native.Mathlib.Omega.{arith}
use lib.ListN.{length, length-replicate}
use Rattle.rules.specs.Frames.{load_words}
use Rattle.calling.proofs.Answered.{refused-is, load-refused}
use Rattle.calling.proofs.runs.load_and_enter.Goals as goal

pub enter-requires-clause-words_in_bounds : goal.enter-requires-clause-words_in_bounds
enter-requires-clause-words_in_bounds g c =
    let e = ap length c.in-Ok.ensures in
    rw length-replicate (omega (arith, e, c.in-Ok.program.loaded.table.words, c.requires.words_in_bounds))

pub returns-in-Ok : goal.returns-in-Ok
returns-in-Ok g c = rw (ap load_words (sym c.in-Ok.ensures) ∙ c.in-Ok.program.loaded.loads) c.enter.ensures

pub returns-in-Err : goal.returns-in-Err
returns-in-Err g c = load-refused _ _ _ _ _ _ c.in-Err.ensures (refused-is _ _ _ _ _ _ _ _ _ _ c.refuse.ensures)
