-- `executor::plain::check_words` meets its contract: it is the core's check in its mode. Written out, so that an edit of the mode is refused
-- by the difference itself.
use Rattle.rules.specs.Calls.{plain_words}
use Rattle.checking.specs.ModeCalls.{mode_call}
use Rattle.executor.proofs.plain.check_words.Goals as goal

pub returns : goal.returns
unfolding mode_call plain_words
returns c = c.check.ensures
