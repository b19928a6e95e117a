pub mod Enough
pub mod Losses
