-- What follows from the definitions of specs/: laws, and a folder for each theorem.

pub mod Laws
pub mod EntryRefusals
pub mod Cases
pub mod EveryCall
pub mod MarksAndSinks
pub mod MapAgreement
pub mod NonInterference
pub mod Soundness
pub mod Resumption
pub mod KilostepsRounded
pub mod TapeWraps
pub mod MomentsKept
pub mod MomentsUnused
pub mod SolveLines
