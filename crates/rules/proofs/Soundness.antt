-- States stay sound.
pub mod PlainSoundness
pub mod GuardedSoundness
pub mod EntrySoundness
