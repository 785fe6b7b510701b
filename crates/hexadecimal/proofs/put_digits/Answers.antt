-- `hexadecimal::put_digits` meets its contract: what the loop keeps (Invariants.antt) says at its end that all digits are written.
use mathlib.Core.Path.{◌≡◌, ap, ◌∙◌}
use Prim.Native.Nat.{ℕ, ◌+◌, ◌-◌, ◌<◌}
use native.Mathlib.Omega.{arith}
use borrow.Author.Tests.{ltb-true, ltb-false}
use lib.ListN.{length}
use Rattle.rules.specs.Hexadecimal.{low_digits}
use Rattle.hexadecimal.specs.Writing.{overlay_at}
use Rattle.hexadecimal.proofs.Writing.{digit-stored, digits-refused, digits-written}
use Rattle.hexadecimal.proofs.put_digits.Goals as goal
use Rattle.hexadecimal.proofs.put_digits.Goals.{then-buffer-n-via-then-buffer-n, then-buffer-n-via-else-buffer-n+then-buffer-n-2}

pub returns-then-buffer-n : goal.returns-then-buffer-n
returns-then-buffer-n c =
    let a = c.args in
    let h : length a.buffer.now < a.at + a.n =
    elim c.then-buffer-n.branch [
      | then-buffer-n-via-then-buffer-n w ↦ omega arith
      | then-buffer-n-via-else-buffer-n+then-buffer-n-2 w ↦ omega (arith, ltb-true)
    ] in
    digits-refused a.buffer.now a.at a.n a.v h

pub loop-written-init : goal.loop-written-init
loop-written-init c =
    let a = c.args in
    let e : a.n - 0 ≡ a.n = omega arith in
    ap (λ (k : ℕ). overlay_at a.buffer.now a.at (low_digits k a.v)) e

pub loop-written-preserved : goal.loop-written-preserved
loop-written-preserved c =
    let l = c.loop-written in
    let a = c.args in
    digit-stored l.buffer a.at (a.at + a.n - 1 - l.written) (a.n - l.written) (a.n - (l.written + 1)) l.rest c.digit_char.result (omega arith)
    (omega arith) (omega (arith, ltb-false)) c.digit_char.ensures ∙ l.invariant

pub returns : goal.returns
returns c =
    let l = c.loop-written in
    let a = c.args in
    digits-written a.buffer.now a.at a.n a.v l.buffer (a.n - l.written) l.rest (omega arith) (omega (arith, ltb-false)) l.invariant
