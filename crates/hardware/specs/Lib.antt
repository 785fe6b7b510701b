-- What the contracts of `hardware` and `storing` cite beside the rules.
pub mod Regions
pub mod Buffers
pub mod Places
