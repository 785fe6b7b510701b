-- What the contracts cite beside the definitions of `rules`.
pub mod Elements
