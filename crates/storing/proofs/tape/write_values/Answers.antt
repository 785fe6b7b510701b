-- `storing::tape::write_values` meets its contract. The loop's invariant: the first i values are written.
use Prim.Native.Nat.{ℕ}
use mathlib.Core.Path.{ap, ◌∙◌}
use mathlib.Core.List.{List}
use native.Mathlib.Omega.{arith}
use lib.ListN.{get_or, set}
use Rattle.hardware.proofs.WriteLaws.{overlay-next}
use Rattle.storing.proofs.tape.write_values.Goals as goal

pub loop-i-preserved : goal.loop-i-preserved
loop-i-preserved c =
    let s = c.args in
    let l = c.loop-i in
    ap (λ (z : List ℕ). set z l.i (get_or s.values.now l.i 0)) l.invariant ∙ overlay-next s.values.now s.free.now l.i (omega arith) (omega arith)
