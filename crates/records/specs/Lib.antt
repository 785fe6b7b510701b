-- What the contracts of `records` cite beside the rules: what each word of a record is.
pub mod Records
