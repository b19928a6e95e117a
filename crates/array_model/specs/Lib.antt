pub mod Objects
pub mod Held
pub mod Step
