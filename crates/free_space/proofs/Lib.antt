pub mod Loops
pub mod Units
pub mod Tables
pub mod LawLemmas
pub mod Taking
pub mod Left
mod Prelude
