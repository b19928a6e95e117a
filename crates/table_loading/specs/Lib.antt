pub mod Loading
pub mod Faults
