-- `traced::stepping::run` meets its contract: the loop's invariant: what is left of the run, from what the steps done left, is the whole run.
use native.Mathlib.Omega.{arith}
use borrow.Author.Rules.{rules}
use Rattle.traced.proofs.Going.{going-first, goes_on, ends, stops-paused}
use Rattle.traced.proofs.stepping.run.Goals as goal

pub loop-done-init : goal.loop-done-init
loop-done-init c = going-first _ _ _ c.requires.output_value (search rules)

pub returns-in_default-clause-sheet_after : goal.returns-in_default-clause-sheet_after
returns-in_default-clause-sheet_after c =
    let g = c.loop-done.invariant in
    ends _ _ _ g (c.step-ran.ensures g.lines g.place) c.loop-done-test.true c.requires.output_value c.in_default.not-Paused

pub loop-done-preserved : goal.loop-done-preserved
loop-done-preserved c = let g = c.loop-done.invariant in goes_on _ _ _ g (c.step-ran.ensures g.lines g.place) c.loop-done-test.true c.in-Paused.is

pub returns-clause-sheet_after : goal.returns-clause-sheet_after
returns-clause-sheet_after c =
    rw c.stop.ensures (stops-paused _ _ _ c.loop-done.invariant c.requires.output_value (λ h. omega (arith, h, c.loop-done-test.false)))
