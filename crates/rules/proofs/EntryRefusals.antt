-- What refusal 2 carries.
pub mod EarliestCarried
pub mod TextSizes
pub mod TextLengths
