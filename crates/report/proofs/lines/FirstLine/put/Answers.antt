-- `report::lines::FirstLine::put` meets its contract: after each part those that follow are left.
use mathlib.Core.List.{List, [], ◌∷◌, ◌++◌}
use Prim.Native.Nat.{ℕ, ◌≤◌}
use native.Mathlib.Omega.{arith}
use lib.ListN.{length}
use Rattle.report.specs.declared.label.Label.{Label}
use Rattle.report.specs.Placing.{Placed}
use Rattle.report.specs.ReportLines.{label_text, frame_field, fields, first_line}
use Rattle.report.proofs.Placing.{Rest, placed_one, placed-length, rest_all, first_fits, rest-after}
use Rattle.report.proofs.lines.FirstLine.put.Goals as goal

-- what is left after so many parts
module _ (label : Label) (steps pc clk : ℕ) (b : List ℕ) (fits : length (first_line label steps pc clk) ≤ length b) where
  left-0 : Rest (first_line label steps pc clk) b 0 (label_text label ++ (fields steps pc clk ++ (frame_field label ++ (10 ∷ [])))) b 0
  unfolding first_line
  left-0 = rest_all (omega (arith, fits))

  module _ {at1 : ℕ} {b1 : List ℕ} (p1 : Placed (label_text label) b 0 at1 b1) where
    left-1 : Rest (first_line label steps pc clk) b 0 (fields steps pc clk ++ (frame_field label ++ (10 ∷ []))) b1 at1
    left-1 = rest-after (label_text label) _ left-0 p1

    module _ {at2 : ℕ} {b2 : List ℕ} (p2 : Placed (fields steps pc clk) b1 at1 at2 b2) where
      left-2 : Rest (first_line label steps pc clk) b 0 (frame_field label ++ (10 ∷ [])) b2 at2
      left-2 = rest-after (fields steps pc clk) _ left-1 p2

      left-3 : {at3 : ℕ} {b3 : List ℕ} → Placed (frame_field label) b2 at2 at3 b3 → Rest (first_line label steps pc clk) b 0 (10 ∷ []) b3 at3
      left-3 = rest-after (frame_field label) _ left-2

pub put_label-a-requires : goal.put_label-a-requires
put_label-a-requires c =
    let a = c.args in
    let l = a.self in
    omega (arith, first_fits (label_text l.label) _ (left-0 l.label l.steps l.pc l.clk a.buffer.now c.requires))

pub put_fields-b-requires : goal.put_fields-b-requires
put_fields-b-requires c =
    let a = c.args in
    let l = a.self in
    first_fits (fields l.steps l.pc l.clk) _ (left-1 l.label l.steps l.pc l.clk a.buffer.now c.requires c.put_label-a.ensures)

pub put_frame-end-requires : goal.put_frame-end-requires
put_frame-end-requires c =
    let a = c.args in
    let l = a.self in
    first_fits (frame_field l.label) _ (left-2 l.label l.steps l.pc l.clk a.buffer.now c.requires c.put_label-a.ensures c.put_fields-b.ensures)

pub bounds-buffer-end : goal.bounds-buffer-end
bounds-buffer-end c =
    let a = c.args in
    let l = a.self in
    omega (arith, (left-3 l.label l.steps l.pc l.clk a.buffer.now c.requires c.put_label-a.ensures c.put_fields-b.ensures c.put_frame-end.ensures).fits)

pub overflow_add-result : goal.overflow_add-result
overflow_add-result c =
    let a = c.args in
    let l = a.self in
    omega (arith, (left-3 l.label l.steps l.pc l.clk a.buffer.now c.requires c.put_label-a.ensures c.put_fields-b.ensures c.put_frame-end.ensures).fits)

pub returns : goal.returns
returns c =
    let a = c.args in
    let l = a.self in
    let p = c.put_frame-end in
    let r = left-3 l.label l.steps l.pc l.clk a.buffer.now c.requires c.put_label-a.ensures c.put_fields-b.ensures p.ensures in
    r.whole (placed_one p.new.buffer p.result 10 (omega (arith, r.fits)))

pub shape_of-buffer : goal.shape_of-buffer
shape_of-buffer c = placed-length (omega (arith, c.requires)) (returns c)
