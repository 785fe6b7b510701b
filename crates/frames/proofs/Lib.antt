-- What the functions' proofs have in common, also those of the crates above.
pub mod Cases
pub mod ByPlace
pub mod ByOpcode
pub mod Selectors
pub mod Sets
