-- `report::print` meets its contract: the lines that it writes are those that are printed of the call.
use mathlib.Core.Path.{sym, ap, ◌∙◌}
use Rattle.report.specs.ReportLines.{reported, lines_from}
use Rattle.report.proofs.Placing.{writes_as}
use Rattle.report.proofs.Showing.{shown, shown-entry}
use Rattle.report.proofs.print.Goals as goal

pub returns-then-is_entry_refusal : goal.returns-then-is_entry_refusal
unfolding reported
returns-then-is_entry_refusal c =
    let a = c.args in
    let entry = sym c.is_entry_refusal.ensures ∙ c.if-is_entry_refusal.true in
    writes_as (shown-entry a.steps a.machine a.output.now c.from-label.ensures entry) c.put_lines.ensures

pub returns : goal.returns
unfolding reported
returns c =
    let a = c.args in
    let m = a.machine in
    let l = c.from-label in
    let entry = sym c.is_entry_refusal.ensures ∙ c.if-is_entry_refusal.false in
    writes_as (shown a.steps m a.output.now l.ensures entry ∙ sym (ap (lines_from l.result a.steps m.pc m.clk) c.used_output.ensures)) c.put_lines-2.ensures
