-- What the functions' proofs have in common.
pub mod Breaking
pub mod Joining
pub mod Framing
pub mod Reading
pub mod Ending
pub mod Loading
pub mod Answering
