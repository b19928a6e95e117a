pub mod FieldLemmas
pub mod OneHead
