-- The proofs of what is seen of a step.
pub mod Below
pub mod Unseen
pub mod Shown
pub mod Sights
