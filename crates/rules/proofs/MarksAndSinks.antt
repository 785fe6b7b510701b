-- Marks and sinks are those of document 01 and of document 02, #108.
pub mod WrittenPlaces
pub mod MarksFollow
pub mod SinksExact
pub mod StepsByRules
pub mod BlankingHolds
pub mod RunsByRules
pub mod CallsByRules
