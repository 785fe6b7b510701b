-- What answers mean: document 01's number, and the values, of each case.
use Rattle.std.specs.Prelude.{ℕ, List, [], ◌∷◌}
use Rattle.rules.specs.declared.Refusal.{Refusal}
use Rattle.rules.specs.declared.Refusal.TheVariants as R
use Rattle.rules.specs.declared.Answer.{Answer}
use Rattle.rules.specs.declared.Answer.TheVariants as A

-- an outcome e0 to e3, or a refusal, by its number and with the values that it carries
pub data Meaning : Type 0 where
  outcome : ℕ → List ℕ → Meaning
  refusal : ℕ → List ℕ → Meaning

unfoldable pub refusal_meaning : Refusal → Meaning
refusal_meaning R.BadLength = refusal 1 []
refusal_meaning (R.MalformedFrame n) = refusal 2 (n ∷ [])
refusal_meaning R.BadState = refusal 3 []
refusal_meaning R.NoInstruction = refusal 4 []
refusal_meaning R.UncoveredOpcode = refusal 5 []
refusal_meaning R.BadOperand = refusal 6 []
refusal_meaning R.NotInField = refusal 7 []
refusal_meaning R.NotSmall = refusal 8 []
refusal_meaning R.AssertFailed = refusal 9 []
refusal_meaning R.RangeCheckFailed = refusal 10 []
refusal_meaning R.CellAbsent = refusal 11 []
refusal_meaning R.SpanPastRegion = refusal 12 []
refusal_meaning R.TapeFault = refusal 13 []
refusal_meaning R.StoreFault = refusal 14 []
refusal_meaning R.ProphetStore = refusal 15 []
refusal_meaning R.NoCapacity = refusal 16 []
refusal_meaning R.ClockEnd = refusal 17 []

unfoldable pub meaning : Answer → Meaning
meaning A.Ended = outcome 0 []
meaning (A.Calling a b c d) = outcome 1 (a ∷ b ∷ c ∷ d ∷ [])
meaning (A.DelegateCalling a b c d) = outcome 2 (a ∷ b ∷ c ∷ d ∷ [])
meaning A.Paused = outcome 3 []
meaning (A.Refused f) = refusal_meaning f
meaning A.MarkedSink = refusal 18 []
meaning A.ShortBuffer = refusal 19 []
