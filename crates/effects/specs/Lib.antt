-- What a step looks at, what it decides, and what that does.
pub mod Modes
pub mod Effects
pub mod Views
pub mod Changes
pub mod Tests
pub mod Operations
pub mod Carrying
pub mod Deciding
