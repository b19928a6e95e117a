pub mod Flags
pub mod Moments
pub mod Shows
pub mod Stores
