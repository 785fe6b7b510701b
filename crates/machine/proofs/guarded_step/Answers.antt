-- `machine::guarded_step` meets its contract: the record is left as the guarded step by value leaves it.
use Rattle.machine.proofs.guarded_step.Goals as goal

pub returns : goal.returns
returns c = c.step_words-ran.ensures
