-- `executor::plain::step_words` meets its contract: it is a run with budget 1.
use Rattle.executor.proofs.plain.step_words.Goals as goal

pub returns : goal.returns
returns c = c.run_words.ensures
