-- Laws of cells written over, and of cells put in.
pub mod OverwriteLaws
pub mod InsertLaws
