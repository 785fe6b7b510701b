-- Demand 3 of the guarded steps in place: of the definition that each one's contract names. The record that is lent and its buffers are a
-- guarded snapshot (`record_snapshot`), before the step and after it.
use Rattle.std.specs.Prelude.{ℕ, List}
use Rattle.rules.specs.Frames.{load_words}
use Rattle.rules.specs.Calls.{plain_words, guarded_words}
use Rattle.rules.specs.NonInterference.{NonInterference}

-- a step is a call with budget 1; both contracts name the same one
pub record NonInterferingInPlace : Type 0 where
  pub guarded_step : (words : List ℕ) → NonInterference (load_words words) 1 (guarded_words words 1) (plain_words words)
  pub lend_and_step_guarded : (words : List ℕ) → NonInterference (load_words words) 1 (guarded_words words 1) (plain_words words)
