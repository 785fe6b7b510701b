-- Every call gets an outcome or one numbered refusal, and leaves what it promises.
pub mod RunEnds
pub mod Ticks
pub mod Restored
pub mod Refusing
pub mod StepAnswers
pub mod AnswerTimes
pub mod Promises
pub mod PlainEnds
pub mod GuardedEnds
pub mod EveryCallHolds
