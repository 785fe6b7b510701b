-- What the functions' proofs have in common; for the crates above, where a row and the slots are, and how many rows are enough.
pub mod OperandKinds
pub mod Frames
pub mod Decoding
pub mod Describing
pub mod Starts
pub mod Loading
pub mod Checking
pub mod RowCounts
pub mod Laying
pub mod Fetching
