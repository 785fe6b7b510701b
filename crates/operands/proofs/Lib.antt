-- What the functions' proofs have in common, and for the crates above what the answers say.
pub mod Slots
pub mod Filling
pub mod Preparing
pub mod Computing
pub mod MarkBits
