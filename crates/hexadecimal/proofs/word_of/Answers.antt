-- `hexadecimal::word_of` meets its contract: what `eight` says of each half of the sixteen characters, put together.
use native.Mathlib.Omega.{arith}
use mathlib.Core.Path.{sym, ◌∙◌}
use Rattle.hexadecimal.proofs.Reading.{half_lt, joined}
use Rattle.hexadecimal.proofs.word_of.Goals as goal

pub returns-in_err-high : goal.returns-in_err-high
returns-in_err-high c =
    let j = joined c.args.text.now c.as_chunks.result.0.now c.told-text c.as_chunks.ensures.front in
    c.from_residual.ensures ∙ sym (rw (sym c.eight.ensures ∙ c.in_err-high.was) at j)

pub returns-in_err-low : goal.returns-in_err-low
returns-in_err-low c =
    let j = joined c.args.text.now c.as_chunks.result.0.now c.told-text c.as_chunks.ensures.front in
    c.from_residual-in_err-low.ensures ∙ sym (rw (sym c.eight.ensures ∙ c.in_ok-high.was, sym c.eight-2.ensures ∙ c.in_err-low.was) at j)

pub overflow_mul-result : goal.overflow_mul-result
overflow_mul-result c =
    omega (arith, half_lt c.args.text.now c.as_chunks.result.0.now c.told-text c.as_chunks.ensures.front 0 c.in_ok-high.high (omega arith) (sym c.eight.ensures ∙ c.in_ok-high.was))

pub overflow_add-result : goal.overflow_add-result
overflow_add-result c =
    let lt = half_lt c.args.text.now c.as_chunks.result.0.now c.told-text c.as_chunks.ensures.front in
    omega (arith, lt 0 c.in_ok-high.high (omega arith) (sym c.eight.ensures ∙ c.in_ok-high.was), lt 1 c.in_ok-low.low (omega arith) (sym c.eight-2.ensures ∙ c.in_ok-low.was))

pub returns : goal.returns
returns c =
    let j = joined c.args.text.now c.as_chunks.result.0.now c.told-text c.as_chunks.ensures.front in sym (rw (sym c.eight.ensures ∙ c.in_ok-high.was, sym c.eight-2.ensures ∙ c.in_ok-low.was) at j)
