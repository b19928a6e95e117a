pub mod Writing
pub mod Progress
pub mod Kept
pub mod Syncing
pub mod Views
pub mod InTurn
pub mod Numbers
pub mod Gathers
pub mod Recovering
pub mod Tried
pub mod OneSector
pub mod Targets
pub mod Pieces
pub mod Tries
pub mod Flat
pub mod Sectors
pub mod Shown
mod Prelude
