-- What the contracts of the functions that write cite.
pub mod Writing
