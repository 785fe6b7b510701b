-- `storing::cells::write_held` meets its contract. The loop's invariant: the first i values are written, and as many moments.
use Prim.Native.Nat.{ℕ, ◌+◌}
use mathlib.Core.Path.{◌≡◌, sym, ap, ◌∙◌}
use mathlib.Core.List.{List}
use native.Mathlib.Omega.{arith}
use lib.ListN.{length, get_or, set, take}
use Rattle.hardware.specs.Places.{overwritten, filled}
use Rattle.storing.proofs.OverwriteLaws.{length-filled, get_or-filled, overwritten-next}
use Rattle.storing.proofs.cells.write_held.Goals as goal

pub loop-i-preserved : goal.loop-i-preserved
loop-i-preserved c =
    let s = c.args in
    let l = c.loop-i in
    let vs = filled s.moment s.values.now in
    let k : length vs ≡ length s.values.now = length-filled s.moment s.values.now in (
      ap (λ (z : List ℕ). set z (s.at + l.i) (get_or s.values.now l.i 0)) l.invariant.0 ∙ overwritten-next s.at s.values.now s.numbers.now l.i (omega arith) (omega arith),
      ap (λ (z : List ℕ). set z (s.at + l.i) s.moment) l.invariant.1
          ∙ ap (set (overwritten s.at (take l.i vs) s.moments.now) (s.at + l.i)) (sym (get_or-filled s.moment s.values.now l.i (omega arith)))
          ∙ overwritten-next s.at vs s.moments.now l.i (omega arith) (omega arith),
    )
