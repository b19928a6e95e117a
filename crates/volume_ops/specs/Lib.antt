pub mod OfArray
pub mod Targets
