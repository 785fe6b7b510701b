-- What the contracts of `ola` cite beside the rules and the records: what a call leaves in what C lends. Then statements about it: refusal 2
-- in the record of an answer, and demand 3 of the guarded functions.
pub mod Lent
pub mod MalformedRecords
pub mod GuardedRecords
