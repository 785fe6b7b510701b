-- Demand 3 of the guarded ones; `solve`.
pub mod GuardedFunctionsHold
pub mod Solving
