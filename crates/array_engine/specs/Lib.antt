pub mod Answering
pub mod Appending
pub mod Saying
pub mod Engines
pub mod Replying
pub mod Prelude
