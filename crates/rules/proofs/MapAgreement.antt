-- The rules over a plain map.
pub mod PlainMapAgreement
pub mod GuardedMapAgreement
pub mod CallsOnMap
