-- Laws of the traced step and of the loop over it.
pub mod PlainSteps
pub mod Tracing
pub mod Stepped
pub mod Going
pub mod Called
