-- What the functions' proofs and the crate above have in common.
pub mod LineLaws
pub mod WordByWord
