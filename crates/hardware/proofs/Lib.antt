-- What the functions' proofs have in common, and for the crates above the laws of cells in buffers.
pub mod RankLaws
pub mod EighthLaws
pub mod SpanLaws
pub mod StoreLaws
pub mod SpliceLaws
pub mod PlaceLaws
pub mod WriteLaws
pub mod PartLaws
pub mod SearchLaws
pub mod BufferLaws
