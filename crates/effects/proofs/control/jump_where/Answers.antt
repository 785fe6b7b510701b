-- `effects::control::jump_where` meets its contract: op0's test, then op1's sink, then the jump.
use mathlib.Core.Path.{◌≡◌}
use mathlib.Core.Bool.{true, false}
use native.Mathlib.Omega.{arith}
use borrow.Author.Tests.{le-leb, lt-leb, eq-eqb, ne_eqb}
use Rattle.effects.specs.Changes.{check, on_result, sink_where}
use Rattle.effects.proofs.control.jump_where.Goals as goal

pub returns-then-a-gt1 : goal.returns-then-a-gt1
unfolding check
returns-then-a-gt1 c = rw (lt-leb c.args.a 1 (omega arith)) c.refuse.ensures

pub returns-then-mark : goal.returns-then-mark
unfolding check on_result sink_where
returns-then-mark c =
    let a = c.args in
    let e : a.mark ≡ true = c.if-mark.true in
    rw (le-leb a.a 1 (omega arith), e) c.sink.ensures

pub returns-then-a-eq1 : goal.returns-then-a-eq1
unfolding check on_result sink_where
returns-then-a-eq1 c =
    let a = c.args in
    let e : a.mark ≡ false = c.if-mark.false in
    rw (le-leb a.a 1 (omega arith), e, eq-eqb a.a 1 c.if-a-eq1.true) c.jump.ensures

pub returns : goal.returns
unfolding check on_result sink_where
returns c =
    let a = c.args in
    let e : a.mark ≡ false = c.if-mark.false in
    rw (le-leb a.a 1 (omega arith), e, ne_eqb a.a 1 c.if-a-eq1.false, ← c.next.ensures) c.jump-2.ensures
