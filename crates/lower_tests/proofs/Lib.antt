pub mod OneRangeLemmas
pub mod GridLemmas
mod Prelude
