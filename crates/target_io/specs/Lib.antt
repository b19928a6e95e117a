pub mod Reading
pub mod Targets
