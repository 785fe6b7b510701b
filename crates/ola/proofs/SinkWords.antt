-- The words of an answer's record say refusal 18 of no other answer.
use Prim.Native.Nat.{ℕ}
use mathlib.Core.Path.{◌≡◌, refl, sym, ap₂, subst, ◌∙◌}
use mathlib.Core.List.{List, []}
use Rattle.rules.specs.declared.Answer.{Answer}
use Rattle.rules.specs.Answers.{Meaning, refusal, meaning}
use Rattle.records.specs.Records.{callee_of, answer_record}
use Rattle.records.proofs.ReadingBack.{meaning_of, answer-read}
use Rattle.ola.specs.GuardedRecords.{SaysSink, SaysSinkAfter, refusal_words}

read-sink : (r : List ℕ) → SaysSink r → meaning_of r ≡ refusal 18 []
read-sink r h = rw (h.0, h.1) refl

pub said-sink : (a : Answer) (steps : ℕ) → SaysSink (answer_record (meaning a) steps) → meaning a ≡ refusal 18 []
said-sink a steps h = sym (answer-read a steps) ∙ read-sink (answer_record (meaning a) steps) h

pub sink-words : (m : Meaning) (steps k : ℕ) → m ≡ refusal 18 [] → steps ≡ k → answer_record m steps ≡ refusal_words 18 k
unfolding answer_record callee_of
sink-words m steps k e s = ap₂ answer_record e s

pub says-sink : (m : Meaning) (steps k : ℕ) → m ≡ refusal 18 [] → steps ≡ k → SaysSinkAfter k (answer_record m steps)
says-sink m steps k e s = subst (SaysSinkAfter k) (sym (sink-words m steps k e s)) ((refl, refl), refl)
