pub mod Ranges
pub mod Reaching
pub mod Marks
pub mod Prelude
