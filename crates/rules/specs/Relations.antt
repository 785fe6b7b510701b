-- Two results side by side: the same refusal, or values that a relation relates. The two values' types may differ.
use Rattle.std.specs.Prelude.{◌≡◌}
use Rattle.rules.specs.declared.Refusal.{Refusal}
use Rattle.rules.specs.Results.{Result, refuse, pass, GuardedResult, refuses, sink, passes}
use Rattle.rules.specs.Step.{RunEnd}

pub data Both {A B : Type 0} (R : A → B → Type 0) : Result A → Result B → Type 0 where
  both-refused : {f : Refusal} → Both R (refuse f) (refuse f)
  passed : {a : A} {b : B} → R a b → Both R (pass a) (pass b)

-- of a guarded step, which may also stop at a sink
pub data BothGuarded {A B : Type 0} (R : A → B → Type 0) : GuardedResult A → GuardedResult B → Type 0 where
  refused-alike : {f : Refusal} → BothGuarded R (refuses f) (refuses f)
  sink-alike : BothGuarded R sink sink
  passed-alike : {a : A} {b : B} → R a b → BothGuarded R (passes a) (passes b)

-- of a run: the same answer after as many steps, and related states
pub record BothRan {S T : Type 0} (R : S → T → Type 0) (r : RunEnd S) (q : RunEnd T) : Type 0 where
  pub answer : r.answer ≡ q.answer
  pub steps : r.steps ≡ q.steps
  pub state : R r.state q.state
