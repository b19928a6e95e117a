pub mod Fared
pub mod Followed
pub mod Left
pub mod Reached
pub mod Resumed
pub mod Taken
pub mod HistoryHolds
mod Prelude
