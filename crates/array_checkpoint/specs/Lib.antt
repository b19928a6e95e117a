pub mod Prepared
pub mod Room
pub mod Made
pub mod Prelude
