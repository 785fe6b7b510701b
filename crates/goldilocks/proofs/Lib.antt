-- Laws of the field, on plain numbers, and of the answers.
pub mod Remainders
pub mod Halves
pub mod Elements
