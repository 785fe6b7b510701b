-- `executor::solve` meets its contract: a call from its start, and the lines of it.
use Rattle.executor.proofs.Solving.{solved}
use Rattle.executor.proofs.solve.Goals as goal

pub returns : goal.returns
returns c =
    let called = c.run_budget_text-ran in
    solved _ _ called.result _ _ _ _ _ _ _ _ c.start.ensures called.ensures.output_after c.print.ensures
