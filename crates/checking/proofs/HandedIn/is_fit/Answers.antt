-- `checking::HandedIn::is_fit` meets its contract: the entry's tests are those of the state and, in a guarded call, of the marks.
use Rattle.checking.specs.ModeCalls.{handed_in}
use Rattle.checking.proofs.Checking.{unfit, plainly-fit, fit-by-marks}
use Rattle.checking.proofs.HandedIn.is_fit.Goals as goal

pub returns-then-not-self : goal.returns-then-not-self
returns-then-not-self c = let h = c.args.self.now in plainly-fit (handed_in h) _ c.accepts.ensures h.mode.guarded c.if-not-self.true c.if-accepts.true

pub returns-else-not-self : goal.returns-else-not-self
returns-else-not-self c =
    let h = c.args.self.now in
    fit-by-marks (handed_in h) _ c.accepts.ensures h.mode.guarded _ c.if-not-self.false c.if-accepts.true
    (c.accepts_marks.ensures h.moments.now h.tape.now h.output.now)

pub returns-else-accepts : goal.returns-else-accepts
returns-else-accepts c = let h = c.args.self.now in unfit (handed_in h) _ c.accepts.ensures h.mode.guarded c.if-accepts.false
