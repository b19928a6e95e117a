pub mod Heads
pub mod Recalled
