pub mod Named
pub mod Saying
pub mod Eliding
pub mod Plan
pub mod Lasting
pub mod Prelude
pub mod Flat
