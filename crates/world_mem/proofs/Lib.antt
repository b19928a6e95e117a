pub mod Bank
pub mod Blowing
pub mod Ends
pub mod Pushed
pub mod Steps
pub mod Takes
pub mod Torn
pub mod Turned
pub mod Undone
mod Prelude
