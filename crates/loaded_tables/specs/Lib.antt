pub mod Patches
pub mod Elided
pub mod Loaded
pub mod lemmas
pub mod Prelude
