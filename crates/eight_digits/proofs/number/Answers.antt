-- `eight_digits::number` meets its contract for every word. The test is that of all bytes at once (Bytewise.antt), and the last three steps
-- bring the eight digits together (Squeeze.antt).
use Rattle.std.specs.Prelude.{Some}
use mathlib.Core.Path.{◌≡◌, sym, ap, ◌∙◌}
use Prim.Native.Nat.{ℕ, ◌/◌}
use native.Mathlib.Omega.{arith}
use lib.Bits.{bit_and, and_le_r}
use Rattle.eight_digits.proofs.Bytewise.{digits_in, digits, enough, past-lt, no_number, a-number, its-digits, digits_le}
use Rattle.eight_digits.proofs.Squeeze.{pack, gather, moved}
use Rattle.eight_digits.proofs.number.Goals as goal

-- the words of the last three steps
abbrev twos-of : ℕ → ℕ
twos-of w = bit_and (moved 16 (digits_in w)) 0x00ff_00ff_00ff_00ff

abbrev fours-of : ℕ → ℕ
fours-of w = bit_and (moved 256 (twos-of w)) 0x0000_ffff_0000_ffff

abbrev eight-of : ℕ → ℕ
eight-of w = bit_and (moved 65536 (fours-of w)) 0xffff_ffff

gathered : (w : ℕ) → digits_in w ≡ pack 256 (digits 8 w) → eight-of w ≡ pack 16 (digits 8 w)
unfolding digits
gathered w e =
    gather _ _ _ _ _ _ _ _ (omega arith) (omega arith) (omega arith) (omega arith) (omega arith) (omega arith) (omega arith) (omega arith) (digits_in w) e

pub overflow_mul-moved : goal.overflow_mul-moved
overflow_mul-moved c = omega (arith, and_le_r (c.args.w / 64) 0x0101_0101_0101_0101)

pub overflow_sub-moved : goal.overflow_sub-moved
overflow_sub-moved c = enough c.args.w c.ranges.w.fits

pub overflow_add-past_nine : goal.overflow_add-past_nine
overflow_add-past_nine c = omega (arith, past-lt c.args.w c.ranges.w.fits)

pub returns-then-wrong-ne0 : goal.returns-then-wrong-ne0
returns-then-wrong-ne0 c = sym (no_number c.args.w c.ranges.w.fits c.if-wrong-ne0.true)

pub overflow_add-twos : goal.overflow_add-twos
overflow_add-twos c = omega (arith, digits_le c.args.w c.ranges.w.fits c.if-wrong-ne0.false)

pub overflow_add-fours : goal.overflow_add-fours
overflow_add-fours c = omega (arith, and_le_r (moved 16 (digits_in c.args.w)) 0x00ff_00ff_00ff_00ff)

pub overflow_add-result : goal.overflow_add-result
overflow_add-result c = omega (arith, and_le_r (moved 256 (twos-of c.args.w)) 0x0000_ffff_0000_ffff)

pub returns : goal.returns
returns c =
    let w = c.args.w in
    let l = c.ranges.w.fits in
    ap Some (gathered w (its-digits w l c.if-wrong-ne0.false)) ∙ sym (a-number w l c.if-wrong-ne0.false)
