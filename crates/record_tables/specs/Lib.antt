pub mod Patches
pub mod Units
pub mod Laws
pub mod Joined
pub mod lemmas
pub mod Prelude
