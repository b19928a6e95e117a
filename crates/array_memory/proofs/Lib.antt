pub mod ResolveLemmas
pub mod Seen
pub mod PlanLemmas
pub mod FinishLemmas
pub mod NamedLemmas
pub mod UnusedLemmas
pub mod MergingLemmas
pub mod OwedLemmas
mod Prelude
pub mod SaidLemmas
