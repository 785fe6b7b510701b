-- Laws of the loop, and for the crates above what a run gives by its mode.
pub mod Loading
pub mod Refusing
pub mod Preparing
pub mod Iterating
pub mod Looping
pub mod Leaving
pub mod Running
pub mod BothRuns
