pub mod SaysLemmas
pub mod SearchLemmas
pub mod InsertLemmas
pub mod FlushLemmas
pub mod ReasonLemmas
pub mod PlaceLemmas
pub mod WeaveLemmas
pub mod SpanLemmas
pub mod PruneLemmas
pub mod EndLemmas
pub mod WalkLemmas
pub mod RunLemmas
pub mod DistinctLemmas
pub mod CoverLemmas
pub mod ElisionLemmas
pub mod LoadLemmas
mod MarkLemmas
mod Prelude
