pub mod PlanLemmas
pub mod ElidingLemmas
pub mod LastingLemmas
pub mod ReachedLemmas
pub mod LeftLemmas
mod Prelude
