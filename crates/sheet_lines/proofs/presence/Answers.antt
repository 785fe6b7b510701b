-- `sheet_lines::presence` meets its contract: each bit is at most 1, so that no sum is past a word.
use native.Mathlib.Omega.{arith}
use Rattle.rules.proofs.Laws.BoolLaws.{bit-one}
use Rattle.sheet_lines.proofs.presence.Goals as goal

pub overflow_mul-result : goal.overflow_mul-result
overflow_mul-result c = omega (arith, bit-one c.args.present.op1)

pub overflow_mul-result-2 : goal.overflow_mul-result-2
overflow_mul-result-2 c = omega (arith, bit-one c.args.present.dst)

pub overflow_add-result : goal.overflow_add-result
overflow_add-result c = let p = c.args.present in omega (arith, bit-one p.op1, bit-one p.dst)

pub overflow_add-result-2 : goal.overflow_add-result-2
overflow_add-result-2 c =
    let p = c.args.present in
    omega (arith, bit-one p.op0, bit-one p.op1, bit-one p.dst)
