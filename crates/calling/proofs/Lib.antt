-- Laws of the calls by mode.
pub mod Answered
pub mod Entered
