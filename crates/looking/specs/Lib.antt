-- What is seen of a step before it is made.
pub mod Looks
