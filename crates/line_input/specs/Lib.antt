pub mod Ahead
pub mod Reading
pub mod Lines
pub mod Calls
pub mod Asking
pub mod lemmas
pub mod Prelude
