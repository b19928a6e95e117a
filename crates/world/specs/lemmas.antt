pub mod Moments
pub mod Ran
pub mod Writes
pub mod Stopped
pub mod Rests
pub mod Bytes
pub mod Rising
