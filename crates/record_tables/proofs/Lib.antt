pub mod Woven
pub mod Replaced
pub mod Tags
pub mod Added
pub mod Lawful
pub mod Named
pub mod Room
pub mod Taking
pub mod Visible
pub mod Sound
pub mod Pairs
pub mod Counting
mod Prelude
