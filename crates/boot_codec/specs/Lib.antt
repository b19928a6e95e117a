pub mod Gate
pub mod Parts
pub mod Record
pub mod Spelling
pub mod Writing
pub mod Reading
pub mod Region
pub mod Prelude
