-- `hardware::addresses::Addresses::last_at_most` meets its contract. The first loop's invariant: the last that is at most `address` lies among
-- the places from low on that are left. The second's: `last` is the last of the first low + i.
use Prim.Native.Nat.{suc, ◌/◌}
use native.Mathlib.Omega.{arith}
use Rattle.hardware.proofs.RankLaws.{rank-length}
use Rattle.hardware.proofs.EighthLaws.{eighth, one_more}
use Rattle.hardware.proofs.addresses.Addresses.last_at_most.Goals as goal

pub loop-left-init : goal.loop-left-init
loop-left-init c = omega (arith, rank-length c.args.self.used.now (suc c.args.address))

pub loop-left-preserved : goal.loop-left-preserved
loop-left-preserved c =
    let l = c.loop-left in
    eighth c.args.self.used.now c.args.address l.low (l.left / 8) c.args.self.rising l.invariant.0 l.left (omega arith) (omega arith) l.invariant.1 l.invariant.2

pub loop-i-preserved : goal.loop-i-preserved
loop-i-preserved c =
    let l = c.loop-i in
    one_more c.args.self.used.now c.args.address c.loop-left.low l.i l.last c.args.self.rising (omega arith) (omega arith) l.invariant
