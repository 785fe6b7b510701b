-- `report::lines::put_value` meets its contract: after the word the line feed is left.
use mathlib.Core.List.{List, [], ◌∷◌}
use Prim.Native.Nat.{ℕ, ◌+◌, ◌≤◌}
use native.Mathlib.Omega.{arith}
use lib.ListN.{length, length-append}
use Rattle.rules.specs.Hexadecimal.{shortest_hex}
use Rattle.report.specs.Placing.{Placed}
use Rattle.report.specs.ReportLines.{value_line}
use Rattle.report.proofs.Placing.{Rest, placed_one, rest_all, rest-after}
use Rattle.report.proofs.lines.put_value.Goals as goal

pub put_hex-end-requires : goal.put_hex-end-requires
put_hex-end-requires c = omega (arith, length-append (shortest_hex c.args.v) (10 ∷ []))

left : (v at : ℕ) (b : List ℕ) {end : ℕ} {after : List ℕ}
    → at + length (value_line v) ≤ length b
    → Placed (shortest_hex v) b at end after
    → Rest (value_line v) b at (10 ∷ []) after end
left v at b fits = rest-after (shortest_hex v) (10 ∷ []) (rest_all fits)

pub bounds-buffer-end : goal.bounds-buffer-end
bounds-buffer-end c = let a = c.args in omega (arith, (left a.v a.at a.buffer.now c.requires c.put_hex-end.ensures).fits)

pub overflow_add-result : goal.overflow_add-result
overflow_add-result c = let a = c.args in omega (arith, (left a.v a.at a.buffer.now c.requires c.put_hex-end.ensures).fits)

pub returns : goal.returns
returns c =
    let a = c.args in
    let p = c.put_hex-end in
    let l = left a.v a.at a.buffer.now c.requires p.ensures in
    l.whole (placed_one p.new.buffer p.result 10 (omega (arith, l.fits)))
