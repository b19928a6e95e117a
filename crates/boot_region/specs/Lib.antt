pub mod Loading
pub mod Members
pub mod Regions
pub mod Slots
pub mod Storing
pub mod lemmas
pub mod Prelude
