-- What the contracts of `machine` cite beside the rules. Then a statement about the guarded steps: demand 3.
pub mod Stepping
pub mod GuardedStepsInPlace
