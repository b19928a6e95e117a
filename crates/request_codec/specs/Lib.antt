pub mod Words
pub mod Data
pub mod Reader
pub mod Spelled
pub mod Items
pub mod Writing
pub mod Prelude
