pub mod Lists
pub mod Spelling
pub mod Segments
pub mod Parts
mod Prelude
