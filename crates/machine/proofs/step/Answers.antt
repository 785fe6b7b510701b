-- `machine::step` meets its contract: the record is left as the step by value leaves it.
use Rattle.machine.proofs.step.Goals as goal

pub returns : goal.returns
returns c = c.step_words-ran.ensures.output_after
