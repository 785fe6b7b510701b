-- What the contracts of `report` cite beside the rules.
pub mod Placing
pub mod ReportLines
