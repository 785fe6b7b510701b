-- No line feed stands at the places that were looked at.
use Rattle.std.proofs.Common.{◌≡◌, ℕ, ◌*◌, ◌<◌, ◌≤◌, get_or}
use Rattle.rules.specs.Text.{line_feed}
use Rattle.program_text.proofs.lines.frame_words.Given as goal

abbrev pub invariant-loop-words : goal.invariant-loop-words
invariant-loop-words l = (k : ℕ) → 1 ≤ k → k < l.words → get_or l.text (16 * k) 0 ≡ line_feed → ⊥
