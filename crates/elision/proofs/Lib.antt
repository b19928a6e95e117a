pub mod RangeLemmas
pub mod SearchLemmas
pub mod CountLemmas
mod Prelude
