-- The traced run and its sheet. Document 02, #102. A reader believes these definitions.
pub mod Lines
pub mod Traced
pub mod TracedCalls
-- statements about them: the traced step beside the plain one
pub mod StepBeside
pub mod TracedEnds
-- a traced and an untraced run are the same run, but for two refusals
pub mod SameRun
-- what stands in the sheet after a call
pub mod SheetLines
-- every traced call gets an outcome or one numbered refusal
pub mod EveryTracedCall
-- worked cases
pub mod TracedCases
-- the traced run over a plain map
pub mod TracedMap
