pub mod WordLemmas
pub mod NumberLemmas
pub mod DataLemmas
pub mod ItemLemmas
pub mod TakenLemmas
pub mod WritingLemmas
pub mod SpelledLemmas
mod Prelude
