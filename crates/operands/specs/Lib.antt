-- What the contracts cite beside the rules and the program's rows.
pub mod Computed
pub mod Meanings
