pub mod Fact
pub mod Heads
pub mod Values
