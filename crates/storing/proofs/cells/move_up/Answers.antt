-- `storing::cells::move_up` meets its contract. The loop's invariant: the elements from i on are moved.
use Prim.Native.Nat.{ℕ, ◌+◌, ◌-◌}
use mathlib.Core.Path.{ap, ◌∙◌}
use mathlib.Core.List.{List}
use native.Mathlib.Omega.{arith}
use lib.ListN.{get_or, set}
use Rattle.storing.proofs.InsertLaws.{moved-next}
use Rattle.storing.proofs.cells.move_up.Goals as goal

pub loop-i-preserved : goal.loop-i-preserved
loop-i-preserved c =
    let s = c.args in
    let l = c.loop-i in (
      omega arith,
      ap (λ (z : List ℕ). set z (l.i - 1 + s.n) (get_or z (l.i - 1) 0)) l.invariant.1
          ∙ moved-next s.count s.n l.i (l.i - 1) s.buffer.now (omega arith) (omega arith) (omega arith),
    )
