pub mod UnitLemmas
pub mod NewLemmas
pub mod MapLemmas
pub mod MarkLemmas
pub mod RoomLemmas
pub mod ChoiceLemmas
pub mod TakingLemmas
pub mod LoweringLemmas
mod Prelude
