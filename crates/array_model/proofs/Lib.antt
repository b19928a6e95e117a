pub mod PlaceLemmas
pub mod StepLemmas
mod Prelude
