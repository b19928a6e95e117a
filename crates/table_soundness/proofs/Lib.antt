pub mod DistinctLemmas
pub mod MarkLemmas
pub mod NumberLemmas
pub mod UnitLemmas
pub mod SegmentLemmas
pub mod ObjectLemmas
pub mod SpanLemmas
pub mod NestLemmas
pub mod ElisionLemmas
pub mod NewestLemmas
pub mod LastLemmas
pub mod AddressLemmas
pub mod MediumLemmas
pub mod OwnedLemmas
pub mod FaultLemmas
pub mod SoundLemmas
mod Prelude
