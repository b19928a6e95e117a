pub mod SearchLemmas
pub mod RefillLemmas
pub mod EndLemmas
