-- Laws behind the proofs of the functions.
pub mod OpcodeRows
pub mod Described
pub mod FetchedRows
