-- The theorem: demand 3 holds of the guarded steps in place.
use Rattle.executor.proofs.GuardedFunctionsHold.{non-interfering}
use Rattle.machine.specs.GuardedStepsInPlace.{NonInterferingInPlace}

pub non-interfering-in-place : NonInterferingInPlace
non-interfering-in-place = record { guarded_step = non-interfering.step_words; lend_and_step_guarded = non-interfering.step_words }
