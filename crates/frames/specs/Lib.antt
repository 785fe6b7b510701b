-- What the contracts of `frames` cite beside the rules.
pub mod Kinds
pub mod FrameWords
pub mod SimpleKinds
pub mod RegisterSets
pub mod Parts
