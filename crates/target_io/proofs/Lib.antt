pub mod Reading
pub mod Sectors
pub mod InSegment
mod Prelude
