-- What the contracts of `program` cite beside the rules.
pub mod Checked
pub mod Table
pub mod Loading
pub mod WordLoads
