pub mod Patches
pub mod Places
pub mod Segments
pub mod Unused
pub mod Eliding
pub mod Planned
pub mod Merging
pub mod Prelude
