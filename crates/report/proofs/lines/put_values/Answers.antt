-- `report::lines::put_values` meets its contract. The loop's invariant: the lines of the values from this place on are left.
use mathlib.Core.Path.{subst}
use mathlib.Core.List.{List, ◌++◌}
use Prim.Native.Nat.{ℕ, ◌+◌}
use lib.ListN.{get_or, drop}
use Rattle.rules.specs.Solve.{value_lines}
use Rattle.report.specs.ReportLines.{value_line}
use Rattle.report.proofs.Placing.{Rest, placed-none, placed-as, rest_all, first_fits, rest-after}
use Rattle.report.proofs.Lengths.{next-value, no_value}
use Rattle.report.proofs.lines.put_values.Goals as goal
use Rattle.report.proofs.lines.put_values.Goals.{In-loop-v}

pub loop-v-init : goal.loop-v-init
loop-v-init c = rest_all c.requires

-- at an iteration: the value's line is left, and those of the values that follow
left : (c : In-loop-v) → let a = c.args in
    let l = c.loop-v in
    Rest (value_lines a.values.now) a.buffer.now a.from (value_line (get_or a.values.now l.v-index 0) ++ value_lines (drop (l.v-index + 1) a.values.now)) l.buffer l.at
left c =
    let a = c.args in
    let l = c.loop-v in
    subst (λ (rest : List ℕ). Rest (value_lines a.values.now) a.buffer.now a.from rest l.buffer l.at) (next-value a.values.now l.v-index c.loop-v-test.true) l.invariant

pub put_value-at-requires : goal.put_value-at-requires
put_value-at-requires c = first_fits _ _ (left (goal.at.put_value-at-requires c).In-loop-v)

pub loop-v-preserved : goal.loop-v-preserved
loop-v-preserved c = rest-after _ _ (left (goal.at.loop-v-preserved c).In-loop-v) c.put_value-at.ensures

pub returns : goal.returns
returns c =
    let l = c.loop-v in
    l.invariant.whole (placed-as (no_value c.args.values.now l.v-index c.loop-v-test.false) (placed-none l.buffer l.at))
