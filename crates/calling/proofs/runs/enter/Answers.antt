-- `calling::runs::enter` meets its contract: the entry's tests pass and the run is made, or the call is refused 3.
use mathlib.Core.Path.{◌≡◌, sym, ◌∙◌}
use mathlib.Core.Bool.{true, false}
use borrow.Author.Rules.{rules}
use Rattle.rules.specs.Entry.{GuardedSnapshot}
use Rattle.interpreter.specs.Runs.{handed}
use Rattle.checking.specs.ModeCalls.{mode_entry}
use Rattle.calling.proofs.Answered.{refused-is, unfit}
use Rattle.calling.proofs.Entered.{passed, entered-guarded, entered-plain}
use Rattle.calling.proofs.runs.enter.Goals as goal
use Rattle.calling.proofs.runs.enter.Goals.{Start, Then-is_fit}

abbrev given : Start → GuardedSnapshot
given s =
    let a = s.args in
    handed a.mode a.machine a.addresses.now a.numbers.now a.moments.now a.marks.now a.tape.now a.output.now

fits : (c : Then-is_fit)
    → let a = c.args in
    mode_entry a.mode.guarded (handed a.mode a.machine a.addresses.now a.numbers.now a.moments.now a.marks.now a.tape.now a.output.now) ≡ true
fits c = sym c.is_fit.ensures ∙ c.if-is_fit.true

pub run-requires : goal.run-requires
run-requires c = record {
  words_in_bounds = c.requires.words_in_bounds;
  passed_entry = passed (given (goal.at.run-requires c).Start) c.args.mode.guarded true c.if-mode.true c.args.mode.extras (fits (goal.at.run-requires c).Then-is_fit) c.requires.plain_has_no_marks;
}

pub returns-then-mode : goal.returns-then-mode
returns-then-mode c =
    entered-guarded (given (goal.at.returns-then-mode c).Start) c.args.mode.guarded c.args.mode.extras (fits (goal.at.returns-then-mode c).Then-is_fit) _ c.args.budget c.run.result _ _ _ _ _ _ c.if-mode.true c.run.ensures

pub run-requires-then-is_fit : goal.run-requires-then-is_fit
run-requires-then-is_fit c =
    record {
      words_in_bounds = c.requires.words_in_bounds;
      passed_entry = passed (given (goal.at.run-requires-then-is_fit c).Start) c.args.mode.guarded false c.if-mode.false c.args.mode.extras (fits (goal.at.run-requires-then-is_fit c).Then-is_fit) c.requires.plain_has_no_marks;
    }

pub returns-then-is_fit : goal.returns-then-is_fit
returns-then-is_fit c =
    entered-plain (given (goal.at.returns-then-is_fit c).Start) c.args.mode.guarded c.args.mode.extras (fits (goal.at.returns-then-is_fit c).Then-is_fit) _ c.args.budget c.run-then-is_fit.result _ _ _ _ _ _ c.if-mode.false c.requires.plain_has_no_marks c.run-then-is_fit.ensures

pub returns : goal.returns
returns c =
    unfit _ _ (given (goal.at.returns c).Start) _ c.args.mode.guarded c.is_fit.result c.is_fit.ensures (search rules) (refused-is _ _ _ _ _ _ _ _ _ _ c.refuse.ensures)
