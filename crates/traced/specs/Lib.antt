-- What the traced step's functions give.
pub mod Steps
