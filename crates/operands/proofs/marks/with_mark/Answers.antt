-- `operands::marks::with_mark` meets its contract: the register's bit is set, or cleared.
use mathlib.Core.Path.{sym, ap, ◌∙◌}
use Prim.Native.Nat.{◌-◌}
use lib.Bits.{bit_and, bit_or, and_le_l}
use lib.ListN.{set}
use Rattle.rules.specs.Entry.{low_bits, word_of_bits}
use Rattle.operands.proofs.MarkBits.{marks-below, bit-of, set-bit, cleared-bit}
use Rattle.operands.proofs.marks.with_mark.Goals as goal

pub overflow_sub-result : goal.overflow_sub-result
overflow_sub-result c = and_le_l _ _

pub returns-then-mark : goal.returns-then-mark
returns-then-mark c =
    let a = c.args in
    let e = ap (bit_or a.marks) (bit-of a.register c.requires.register_bound) ∙ set-bit a.marks a.register c.requires.marks_lt_set_end c.requires.register_bound in
    let f = e ∙ ap (λ t. word_of_bits (set (low_bits 10 a.marks) a.register t)) (sym c.if-mark.true) in
    (f, rw f (marks-below a.marks a.register a.mark))

pub returns-else-mark : goal.returns-else-mark
returns-else-mark c =
    let a = c.args in
    let e = ap (λ b. a.marks - bit_and a.marks b) (bit-of a.register c.requires.register_bound) ∙ cleared-bit a.marks a.register c.requires.marks_lt_set_end c.requires.register_bound in
    let f = e ∙ ap (λ t. word_of_bits (set (low_bits 10 a.marks) a.register t)) (sym c.if-mark.false) in
    (f, rw f (marks-below a.marks a.register a.mark))
