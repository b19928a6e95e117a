pub mod Head
pub mod Fields
pub mod Parts
pub mod Log
pub mod Prelude
