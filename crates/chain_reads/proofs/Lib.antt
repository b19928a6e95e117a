pub mod ChainLemmas
mod Prelude
