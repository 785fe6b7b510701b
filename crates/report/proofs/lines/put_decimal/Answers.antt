-- `report::lines::put_decimal` meets its contract: one digit, or two.
use mathlib.Core.Path.{ap}
use mathlib.Core.List.{[], ◌∷◌}
use Prim.Native.Nat.{◌+◌, ◌/◌, ◌%◌}
use native.Mathlib.Omega.{arith}
use lib.ListN.{length, set, length-set}
use Rattle.report.proofs.Placing.{placed_one, placed-as, rest_all, rest-after}
use Rattle.report.proofs.Lengths.{decimal-one, decimal-two}
use Rattle.report.proofs.lines.put_decimal.Goals as goal

pub bounds-buffer-0 : goal.bounds-buffer-0
bounds-buffer-0 c = omega (arith, ap length (decimal-one c.args.n c.if-n-lt10.true))

pub returns-then-n-lt10 : goal.returns-then-n-lt10
returns-then-n-lt10 c =
    let a = c.args in
    let e = decimal-one a.n c.if-n-lt10.true in
    placed-as e (placed_one a.buffer.now 0 (a.n + 48) (omega (arith, ap length e)))

pub bounds-buffer-0-2 : goal.bounds-buffer-0-2
bounds-buffer-0-2 c = omega (arith, ap length (decimal-two c.args.n c.if-n-lt10.false))

pub bounds-buffer-1 : goal.bounds-buffer-1
bounds-buffer-1 c =
    let a = c.args in
    omega (arith, ap length (decimal-two a.n c.if-n-lt10.false), length-set a.buffer.now 0 (a.n / 10 + 48))

pub returns : goal.returns
returns c =
    let a = c.args in
    let b = a.buffer.now in
    let e = decimal-two a.n c.if-n-lt10.false in
    let n = ap length e in
    let high = a.n / 10 + 48 in
    let low = a.n % 10 + 48 in
    let first = placed_one b 0 high (omega arith) in
    let second = placed_one (set b 0 high) 1 low (omega (arith, length-set b 0 high)) in
    placed-as e ((rest-after (high ∷ []) (low ∷ []) (rest_all (omega arith)) first).whole second)
