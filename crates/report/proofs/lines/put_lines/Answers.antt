-- `report::lines::put_lines` meets its contract: nothing is written before both lengths are known to fit.
use mathlib.Core.Bool.{true, false}
use mathlib.Core.List.{List, ◌++◌}
use mathlib.Core.Path.{◌≡◌, sym, ◌∙◌}
use Prim.Native.Nat.{ℕ, ◌+◌, ◌-◌, ◌<◌, ◌≤◌}
use native.Mathlib.Omega.{arith}
use lib.Dec.{leb}
use lib.ListN.{length, length-append}
use borrow.Author.Tests.{leb-true, leb-false}
use Rattle.rules.specs.Solve.{value_lines}
use Rattle.hexadecimal.proofs.Buffers.{no-space}
use Rattle.report.specs.Placing.{Placed}
use Rattle.report.specs.ReportLines.{first_line, lines_from}
use Rattle.report.proofs.Placing.{Rest, placed-writes, rest_all, rest-after}
use Rattle.report.proofs.lines.put_lines.Goals as goal
use Rattle.report.proofs.lines.put_lines.Goals.{Else-not-values_fit}

-- the two parts, and their lengths
module _ (first others buffer : List ℕ) {n : ℕ} (e : n ≡ length first) where
  too-long-first : length buffer < n → length buffer < 0 + length (first ++ others)
  too-long-first h = omega (arith, length-append first others)

  too-long-others : leb (length others) (length buffer - n) ≡ false → length buffer < 0 + length (first ++ others)
  too-long-others t = omega (arith, length-append first others, leb-false (length others) (length buffer - n) t)

  fits : n ≤ length buffer → leb (length others) (length buffer - n) ≡ true → 0 + length (first ++ others) ≤ length buffer
  fits h t = omega (arith, length-append first others, leb-true (length others) (length buffer - n) t)

-- the values' lines are left after the first line
left : (first others buffer : List ℕ) {from : ℕ} {after : List ℕ}
    → 0 + length (first ++ others) ≤ length buffer
    → Placed first buffer 0 from after
    → Rest (first ++ others) buffer 0 others after from
left first others buffer h = rest-after first others (rest_all h)

pub returns-in_err-others : goal.returns-in_err-others
unfolding lines_from
returns-in_err-others c =
    let f = c.args.first in
    let first = first_line f.label f.steps f.pc f.clk in
    let others = value_lines c.args.values.now in
    let short : length c.args.buffer.now < c.length.result = omega (arith, c.in_err-others.ensures) in
    rw c.from_residual.ensures (no-space c.args.buffer.now 0 (first ++ others) (too-long-first first others c.args.buffer.now c.length.ensures short))

pub returns-then-not-values_fit : goal.returns-then-not-values_fit
unfolding lines_from
returns-then-not-values_fit c =
    let f = c.args.first in
    let first = first_line f.label f.steps f.pc f.clk in
    let others = value_lines c.args.values.now in
    let t = rw c.in_ok-others.ensures.1 at (sym c.values_fit.ensures ∙ c.if-not-values_fit.true) in
    no-space c.args.buffer.now 0 (first ++ others) (too-long-others first others c.args.buffer.now c.length.ensures t)

-- past the tests all lines fit
all : (c : Else-not-values_fit) → let f = c.args.first in
    0 + length (first_line f.label f.steps f.pc f.clk ++ value_lines c.args.values.now) ≤ length c.args.buffer.now
all c =
    let f = c.args.first in
    let t = rw c.in_ok-others.ensures.1 at (sym c.values_fit.ensures ∙ c.if-not-values_fit.false) in
    fits (first_line f.label f.steps f.pc f.clk) (value_lines c.args.values.now) c.args.buffer.now c.length.ensures c.in_ok-others.ensures.0 t

pub put_values-requires : goal.put_values-requires
put_values-requires c = (left _ _ c.args.buffer.now (all (goal.at.put_values-requires c).Else-not-values_fit) c.put-from.ensures).fits

pub returns : goal.returns
unfolding lines_from
returns c =
    let h = all (goal.at.returns c).Else-not-values_fit in
    placed-writes h ((left _ _ c.args.buffer.now h c.put-from.ensures).whole c.put_values.ensures)
