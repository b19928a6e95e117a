pub mod AddressLemmas
pub mod PointingLemmas
mod Prelude
