-- Laws of the entry's tests and of what they answer.
pub mod Checking
