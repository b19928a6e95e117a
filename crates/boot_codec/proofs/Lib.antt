pub mod WritingLemmas
pub mod FlagLemmas
pub mod SpellingLemmas
pub mod LoopLemmas
pub mod PlaceLemmas
pub mod PatchLemmas
pub mod PaddingLemmas
pub mod FieldLemmas
pub mod HeaderLemmas
pub mod ListLemmas
pub mod RecordLemmas
mod Prelude
