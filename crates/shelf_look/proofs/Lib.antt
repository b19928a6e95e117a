pub mod Beside
pub mod Causing
pub mod Counting
pub mod Heads
pub mod Lifting
pub mod Logs
pub mod Making
pub mod Reading
pub mod Records
mod Prelude
