-- `report::lines::put_fields` meets its contract: after each field those that follow are left.
use mathlib.Core.List.{List, ◌++◌}
use Prim.Native.Nat.{ℕ, ◌+◌, ◌≤◌}
use lib.ListN.{length}
use Rattle.rules.specs.Solve.{kilosteps, spaced}
use Rattle.report.specs.Placing.{Placed}
use Rattle.report.specs.ReportLines.{fields}
use Rattle.report.proofs.Placing.{Rest, rest_all, first_fits, rest-after}
use Rattle.report.proofs.lines.put_fields.Goals as goal

-- what is left after so many fields
module _ (steps pc clk at : ℕ) (b : List ℕ) (fits : at + length (fields steps pc clk) ≤ length b) where
  left-0 : Rest (fields steps pc clk) b at (spaced steps ++ (spaced pc ++ (spaced clk ++ spaced (kilosteps clk)))) b at
  unfolding fields
  left-0 = rest_all fits

  module _ {at1 : ℕ} {b1 : List ℕ} (p1 : Placed (spaced steps) b at at1 b1) where
    left-1 : Rest (fields steps pc clk) b at (spaced pc ++ (spaced clk ++ spaced (kilosteps clk))) b1 at1
    left-1 = rest-after (spaced steps) _ left-0 p1

    module _ {at2 : ℕ} {b2 : List ℕ} (p2 : Placed (spaced pc) b1 at1 at2 b2) where
      left-2 : Rest (fields steps pc clk) b at (spaced clk ++ spaced (kilosteps clk)) b2 at2
      left-2 = rest-after (spaced pc) _ left-1 p2

      left-3 : {at3 : ℕ} {b3 : List ℕ} → Placed (spaced clk) b2 at2 at3 b3 → Rest (fields steps pc clk) b at (spaced (kilosteps clk)) b3 at3
      left-3 = rest-after (spaced clk) _ left-2

pub put_field-a-requires : goal.put_field-a-requires
put_field-a-requires c = let a = c.args in first_fits (spaced a.steps) _ (left-0 a.steps a.pc a.clk a.at a.buffer.now c.requires)

pub put_field-b-requires : goal.put_field-b-requires
put_field-b-requires c =
    let a = c.args in
    first_fits (spaced a.pc) _ (left-1 a.steps a.pc a.clk a.at a.buffer.now c.requires c.put_field-a.ensures)

pub put_field-c-requires : goal.put_field-c-requires
put_field-c-requires c =
    let a = c.args in
    first_fits (spaced a.clk) _ (left-2 a.steps a.pc a.clk a.at a.buffer.now c.requires c.put_field-a.ensures c.put_field-b.ensures)

pub put_field-requires : goal.put_field-requires
put_field-requires c =
    let a = c.args in
    let l = left-3 a.steps a.pc a.clk a.at a.buffer.now c.requires c.put_field-a.ensures c.put_field-b.ensures c.put_field-c.ensures in
    rw c.kilosteps.ensures l.fits

pub returns : goal.returns
returns c =
    let a = c.args in
    let l = left-3 a.steps a.pc a.clk a.at a.buffer.now c.requires c.put_field-a.ensures c.put_field-b.ensures c.put_field-c.ensures in
    l.whole (rw c.kilosteps.ensures at c.put_field.ensures)
