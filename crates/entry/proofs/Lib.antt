-- What the functions' proofs have in common.
pub mod Tests
pub mod Elements
