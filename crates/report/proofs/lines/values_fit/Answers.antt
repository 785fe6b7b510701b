-- `report::lines::values_fit` meets its contract. The loop's invariant: all lines fit where those of the values from this place on fit in the
-- places left.
use Rattle.std.proofs.Common.{◌≡◌, ℕ, ◌+◌, ◌<◌, leb, sym, ap, ◌∙◌, length, drop, get_or, arith}
use Rattle.rules.specs.Hexadecimal.{digit_count}
use Rattle.rules.specs.Solve.{value_lines}
use Rattle.report.specs.ReportLines.{value_line}
use Rattle.report.proofs.Lengths.{count_most, value-count, all_fit, too_long, fits_after}
use Rattle.report.proofs.lines.values_fit.Goals as goal

pub overflow_add-digit_count : goal.overflow_add-digit_count
overflow_add-digit_count c = omega (arith, count_most 15)

-- how long the value's line is
line-length : (v : ℕ) (n : ℕ) → n ≡ digit_count 15 v → n + 1 ≡ length (value_line v)
line-length v n e = ap (λ (k : ℕ). k + 1) e ∙ value-count v

pub returns-in_default : goal.returns-in_default
returns-in_default c =
    let l = c.loop-v in
    let vs = c.args.values.now in
    let short : l.left < c.digit_count.result + 1 = omega (arith, c.in_default.ensures) in
    sym (l.invariant ∙ too_long vs l.v-index l.left (c.digit_count.result + 1) c.loop-v-test.true (line-length (get_or vs l.v-index 0) _ c.digit_count.ensures) short)

pub loop-v-preserved : goal.loop-v-preserved
loop-v-preserved c =
    let l = c.loop-v in
    let vs = c.args.values.now in
    let e = c.in-Some.ensures in
    l.invariant
    ∙ fits_after vs l.v-index l.left (c.digit_count.result + 1) c.loop-v-test.true (line-length (get_or vs l.v-index 0) _ c.digit_count.ensures) e.0
    ∙ ap (leb (length (value_lines (drop (l.v-index + 1) vs)))) (sym e.1)

pub returns : goal.returns
returns c =
    let l = c.loop-v in
    sym (l.invariant ∙ all_fit c.args.values.now l.v-index l.left c.loop-v-test.false)
