pub mod AckedLemmas
pub mod RunLemmas
pub mod Held
pub mod Store
pub mod Marks
pub mod Cleared
pub mod Shown
pub mod ExampleValues
pub mod LogSettled
mod LogKept
pub mod Free
pub mod Follow
mod Prelude
