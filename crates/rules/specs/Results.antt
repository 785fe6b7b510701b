-- A stage's result: a value, or the first refusal.
use Rattle.std.specs.Prelude.{Bool, true, false}
use Rattle.rules.specs.declared.Refusal.{Refusal}

pub data Result (A : Type 0) : Type 0 where
  refuse : Refusal → Result A
  pass : A → Result A

-- the result where the test passes, else the refusal
unfoldable pub require : {A : Type 0} → Bool → Refusal → Result A → Result A
require true f r = r
require false f r = refuse f

-- one stage after another
unfoldable pub bind : {A B : Type 0} → Result A → (A → Result B) → Result B
bind (refuse f) k = refuse f
bind (pass a) k = k a

-- the same in a guarded step, which refuses at a sink too: `sink` is refusal 18
pub data GuardedResult (A : Type 0) : Type 0 where
  refuses : Refusal → GuardedResult A
  sink : GuardedResult A
  passes : A → GuardedResult A

unfoldable pub after : {A B : Type 0} → Result A → (A → GuardedResult B) → GuardedResult B
after (refuse f) k = refuses f
after (pass a) k = k a

-- refusal 18 where the test passes, else the result
unfoldable pub guard : {A : Type 0} → Bool → GuardedResult A → GuardedResult A
guard true r = sink
guard false r = r
