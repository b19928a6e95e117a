pub mod Registers
pub mod Standing
pub mod Tables
pub mod Faults
pub mod Giving
pub mod Storing
pub mod lemmas
pub mod Prelude
