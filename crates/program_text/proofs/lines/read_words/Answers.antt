-- `program_text::lines::read_words` meets its contract.
use Rattle.std.proofs.Common.{ℕ, List, [], length, get_or, ◌/◌, ◌≡◌, sym, ap, ◌∙◌, drop, take, ◌*◌, arith}
use Rattle.rules.specs.Hexadecimal.{word_of}
use Rattle.program_text.proofs.Joining.{joined-none, joined-next, joined-other, joined-all, chunk}
use Rattle.program_text.proofs.lines.read_words.Goals as goal
use Rattle.program_text.proofs.lines.read_words.Goals.{After-word_of}

-- the word at the loop's place
module _ (c : After-word_of) where
  word-here : c.word_of.result ≡ word_of (take 16 (drop (16 * c.loop-i.i) c.args.digits.now))
  word-here =
      let d = c.args.digits.now in
      c.word_of.ensures
      ∙ ap (λ (cs : List (List ℕ)). word_of (get_or cs c.loop-i.i [])) c.as_chunks.ensures.front
      ∙ ap word_of (chunk (length d / 16) c.loop-i.i d (omega (arith, c.as_chunks.ensures.front_len)))

pub loop-i-init : goal.loop-i-init
loop-i-init c = joined-none _ _ _ _ c.requires.1

pub returns-in_err-words : goal.returns-in_err-words
returns-in_err-words c =
    rw c.from_residual.ensures (joined-other c.loop-i.invariant (omega (arith, c.as_chunks.ensures.front_len)) (sym (word-here (goal.at.returns-in_err-words c).After-word_of) ∙ c.in_err-words.was))

pub loop-i-preserved : goal.loop-i-preserved
loop-i-preserved c =
    joined-next _ c.loop-i.invariant (omega (arith, c.as_chunks.ensures.front_len)) c.requires.0 (sym (word-here (goal.at.loop-i-preserved c).After-word_of) ∙ c.in_ok-words.was)

pub returns : goal.returns
returns c = let l = c.loop-i in (joined-all l.invariant (omega (arith, c.as_chunks.ensures.front_len)), l.invariant.kept, l.invariant.size)
