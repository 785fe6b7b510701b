-- Demand 3 of each public guarded function. The contracts cite the rules alone.
pub mod GuardedFunctions
