pub mod Numbers
pub mod Follows
pub mod Opened
pub mod Resting
pub mod Again
pub mod Back
pub mod Rounds
pub mod Turns
pub mod Splice
pub mod Unflushed
pub mod Tabling
pub mod Left
pub mod Outlasts
pub mod Made
mod Prelude
