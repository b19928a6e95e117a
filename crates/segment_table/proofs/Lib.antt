pub mod SegmentLemmas
pub mod AddedLemmas
mod Prelude
