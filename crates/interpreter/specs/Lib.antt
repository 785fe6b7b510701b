-- What a run takes, and what it gives.
pub mod Runs
