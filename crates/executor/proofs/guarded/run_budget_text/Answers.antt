-- `executor::guarded::run_budget_text` meets its contract: it is the core's call in its mode. Written out, so that an edit of the marks is
-- refused by the difference itself.
use Rattle.rules.specs.Calls.{guarded_budget_text}
use Rattle.checking.specs.ModeCalls.{mode_call}
use Rattle.executor.proofs.guarded.run_budget_text.Goals as goal

pub returns : goal.returns
unfolding mode_call guarded_budget_text
returns c = c.run.ensures
