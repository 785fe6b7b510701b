-- `storing::cells::insert_at` meets its contract: the value goes where those from its place on have left one.
use Prim.Native.Nat.{ℕ}
use mathlib.Core.Path.{ap, ◌∙◌}
use mathlib.Core.List.{List}
use native.Mathlib.Omega.{arith}
use lib.ListN.{set}
use Rattle.storing.proofs.InsertLaws.{moved-set}
use Rattle.storing.proofs.cells.insert_at.Goals as goal

pub returns : goal.returns
returns c =
    let s = c.args in
    ap (λ (z : List ℕ). set z s.at s.v) c.move_up.ensures ∙ moved-set s.count s.at s.v s.buffer.now (omega arith) (omega arith)
