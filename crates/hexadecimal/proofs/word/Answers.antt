-- `hexadecimal::word` meets its contract: sixteen characters are there, or they are no word.
use Rattle.std.proofs.Common.{◌<◌, length, inl, inr, sym, ap, ◌∙◌, take, arith}
use Rattle.std.proofs.lemmas.List.{take_rest}
use Rattle.rules.specs.Hexadecimal.{word_of}
use Rattle.hexadecimal.proofs.Reading.{too_short}
use Rattle.hexadecimal.proofs.word.Goals as goal

pub returns-in_err-get : goal.returns-in_err-get
returns-in_err-get c =
    c.from_residual.ensures ∙ sym (too_short c.args.s.now c.args.at (elim c.in_err-get.ensures.lookup.0 [ inl k ↦ omega arith | inr k ↦ omega arith ]))

pub returns-in_err-first_chunk : goal.returns-in_err-first_chunk
returns-in_err-first_chunk c =
    let short : length c.in_ok-get.field-0.now < 16 = c.in_err-first_chunk.ensures.cases in
    c.from_residual-in_err-first_chunk.ensures ∙ sym (too_short c.args.s.now c.args.at (omega (arith, c.in_ok-get.ensures.lookup.0.3)))

pub returns : goal.returns
returns c =
    c.word_of.ensures ∙ ap word_of (c.in_ok-first_chunk.ensures.cases.same ∙ ap (take 16) (c.in_ok-get.ensures.lookup.0.2 ∙ take_rest c.args.s.now c.args.at))
