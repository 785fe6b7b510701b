-- Runs go on where they paused.
pub mod Resuming
pub mod Growth
pub mod RunSplits
pub mod WrittenBehind
pub mod CallSplits
