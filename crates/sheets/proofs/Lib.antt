-- What follows from the definitions of specs/.
pub mod Stepping
pub mod StepViews
pub mod Continuing
pub mod RunsBeside
pub mod SameRunHolds
pub mod RunLines
pub mod LineTexts
pub mod SheetLinesHold
pub mod TracedCallEnds
pub mod EveryTracedCallHolds
pub mod TracedCasesHold
pub mod TracedMapHolds
