pub mod Tables
pub mod Spelled
pub mod Standing
pub mod Faults
pub mod Prelude
