-- `calling::runs::run_words` meets its contract: the call is made in rows that are enough.
use Rattle.program.proofs.RowCounts.{rows-for-any, rows-for-short, rows-for-tiny}
use Rattle.calling.proofs.runs.run_words.Goals as goal

pub load_and_enter-requires-clause-empty_rows : goal.load_and_enter-requires-clause-empty_rows
load_and_enter-requires-clause-empty_rows c = rows-for-tiny _ c.if-words-le-TINY_WORDS.true

pub load_and_enter-requires-then-words-le-SHORT_WORDS-clause-empty_rows : goal.load_and_enter-requires-then-words-le-SHORT_WORDS-clause-empty_rows
load_and_enter-requires-then-words-le-SHORT_WORDS-clause-empty_rows c = rows-for-short _ c.if-words-le-SHORT_WORDS.true

pub load_and_enter-requires-2-clause-empty_rows : goal.load_and_enter-requires-2-clause-empty_rows
load_and_enter-requires-2-clause-empty_rows c = rows-for-any _
