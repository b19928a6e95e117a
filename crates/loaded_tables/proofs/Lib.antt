pub mod ElidedLemmas
