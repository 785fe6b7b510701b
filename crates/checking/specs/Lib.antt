-- What the contracts of `checking` cite beside the rules.
pub mod ModeCalls
