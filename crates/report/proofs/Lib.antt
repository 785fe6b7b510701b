-- What the functions' proofs have in common.
pub mod Placing
pub mod Lengths
pub mod Showing
