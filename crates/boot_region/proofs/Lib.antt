pub mod Began
pub mod Composing
pub mod GateCalls
pub mod LoadingLemmas
pub mod OnEach
pub mod Phases
pub mod Settled
pub mod StillGiven
pub mod ReadingLemmas
pub mod RegionLemmas
pub mod Stored
mod Prelude
