pub mod PlacesLemmas
pub mod SegmentsLemmas
pub mod Planned
pub mod ElidedLemmas
pub mod RangesOf
pub mod WitnessLemmas
pub mod PatchFacts
pub mod MergeLemmas
mod Prelude
