pub mod RunLemmas
pub mod LinkLemmas
