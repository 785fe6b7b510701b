-- The statement about the guarded steps holds.
pub mod GuardedStepsHold
