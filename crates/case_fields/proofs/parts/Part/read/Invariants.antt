-- `case_fields::parts::Part::read` is safe: the number that is read stands among the part's.
use Prim.Native.Nat.{◌<◌}
use Rattle.case_fields.proofs.parts.Part.read.Given as goal

abbrev pub invariant-loop-c : goal.invariant-loop-c
invariant-loop-c l = l.at < 4097
