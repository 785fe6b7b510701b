-- The number of eight digits by arithmetic on the whole word.
pub mod Appending
pub mod Lanes
pub mod Masks
pub mod Bytewise
pub mod Squeeze
pub mod Together
