pub mod Zips
pub mod Tags
pub mod Reading
pub mod Loaded
pub mod Faulted
mod Prelude
