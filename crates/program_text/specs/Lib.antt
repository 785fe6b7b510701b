-- What the contracts of `program_text` cite beside the rules.
pub mod TextLines
pub mod TextLoads
