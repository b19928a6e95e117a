pub mod VoteLemmas
pub mod FirstLemmas
pub mod ViewLemmas
pub mod MadeLemmas
pub mod CallLemmas
pub mod CloseLemmas
pub mod InitLemmas
mod Prelude
