-- `effects::tape::test_each` meets its contract: what is left of the tests is all that is left of the whole.
use Prim.Native.Nat.{◌+◌}
use mathlib.Core.Path.{◌≡◌}
use lib.ListN.{drop}
use Rattle.effects.specs.Operations.{tests_of}
use Rattle.effects.proofs.tape.test_each.Given as goal

abbrev pub invariant-loop-i : goal.invariant-loop-i
invariant-loop-i l = tests_of l.start l.values ≡ tests_of (l.start + l.i) (drop l.i l.values)
