-- Laws of the records; the statement that nothing is lost in them holds.
pub mod RecordLaws
pub mod ReadingBack
