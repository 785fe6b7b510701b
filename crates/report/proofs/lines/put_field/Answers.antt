-- `report::lines::put_field` meets its contract: after the space the word is left.
use mathlib.Core.List.{[], ◌∷◌}
use Prim.Native.Nat.{◌+◌}
use native.Mathlib.Omega.{arith}
use lib.ListN.{set}
use Rattle.rules.specs.Hexadecimal.{shortest_hex}
use Rattle.rules.specs.Solve.{spaced}
use Rattle.report.proofs.Placing.{Rest, placed_one, placed-length, rest_all, rest-after}
use Rattle.report.proofs.lines.put_field.Goals as goal
use Rattle.report.proofs.lines.put_field.Goals.{Start}

left : (c : Start) → let a = c.args in Rest (spaced a.v) a.buffer.now a.at (shortest_hex a.v) (set a.buffer.now a.at 32) (a.at + 1)
left c =
    let a = c.args in
    rest-after (32 ∷ []) (shortest_hex a.v) (rest_all c.requires) (placed_one a.buffer.now a.at 32 (omega (arith, c.requires)))

pub put_hex-requires : goal.put_hex-requires
put_hex-requires c = (left (goal.at.put_hex-requires c).Start).fits

pub returns : goal.returns
returns c = (left (goal.at.returns c).Start).whole c.put_hex.ensures

pub shape_of-buffer : goal.shape_of-buffer
shape_of-buffer c = placed-length c.requires (returns c)
