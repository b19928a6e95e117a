pub mod Merged
mod Prelude
