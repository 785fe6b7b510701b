-- Laws of tests, results, answers, products, memory, numbers beside moments, buffers, entries and marks.
pub mod Computed
pub mod BoolLaws
pub mod ResultLaws
pub mod AnswerLaws
pub mod ProductLaws
pub mod CellLaws
pub mod HeldLaws
pub mod OverlayLaws
pub mod EntryLaws
pub mod FirstWords
pub mod DecodedRegisters
pub mod Relational
pub mod Passing
pub mod Callees
pub mod MarkLaws
