-- For the crates above: the decided change is the step of the rules and can be carried out; both runs are one run by a flag.
pub mod ReadValues
pub mod Decisions
pub mod Allowances
pub mod ModeRuns
pub mod Iterations
pub mod Carried
-- Laws behind the proofs of the functions.
pub mod MarksInMode
pub mod CellsBelow
pub mod StoreTests
pub mod Spans
pub mod TapeParts
pub mod BufferChanges
