pub mod Came
pub mod Kept
pub mod StillReady
pub mod Going
pub mod Along
pub mod Answered
pub mod Steps
pub mod SoFar
pub mod ItemsRead
pub mod MadeLemmas
pub mod Headlines
pub mod WordLemmas
mod Prelude
