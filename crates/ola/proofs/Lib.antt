-- Laws of what a call leaves; the statements about refusal 2 and about the guarded functions hold.
pub mod MalformedShown
pub mod SinkWords
pub mod GuardedRecordsHold
