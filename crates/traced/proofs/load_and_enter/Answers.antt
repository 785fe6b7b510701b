-- `traced::load_and_enter` meets its contract: the words are loaded and the call is theirs, or they are refused.
use mathlib.Core.Path.{ap, sym, ◌∙◌}
use native.Mathlib.Omega.{arith}
use lib.ListN.{length}
use Rattle.rules.specs.Frames.{load_words}
use Rattle.program.proofs.RowCounts.{rows-for-any}
use Rattle.traced.proofs.Called.{refused-is, load-refused}
use Rattle.traced.proofs.load_and_enter.Goals as goal

pub load-requires : goal.load-requires
load-requires c = rows-for-any _

pub enter-requires : goal.enter-requires
enter-requires c = omega (arith, ap length c.in-Ok.ensures, c.in-Ok.program.loaded.table.words)

pub returns-in-Ok-clause-sheet_after : goal.returns-in-Ok-clause-sheet_after
returns-in-Ok-clause-sheet_after c = rw (ap load_words (sym c.in-Ok.ensures) ∙ c.in-Ok.program.loaded.loads) c.enter.ensures.sheet_after

pub returns-in-Err-clause-sheet_after : goal.returns-in-Err-clause-sheet_after
returns-in-Err-clause-sheet_after c = load-refused _ _ _ _ _ c.in-Err.ensures (refused-is _ _ _ _ _ _ _ _ _ c.stop.ensures)
