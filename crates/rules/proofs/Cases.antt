-- The tables of cases hold.
pub mod Unfolding
pub mod LongTexts
pub mod AllCases
