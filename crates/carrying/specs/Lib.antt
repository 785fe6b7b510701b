-- What the loop holds, and what a step leaves of it.
pub mod Cores
pub mod Steps
