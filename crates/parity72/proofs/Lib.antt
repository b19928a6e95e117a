pub mod Checks
pub mod Inverses
pub mod Laws
pub mod Linear
pub mod LaneFacts
pub mod Progress
pub mod Sums
pub mod Codewords
pub mod Corrections
pub mod Errors
pub mod SevenDecide
pub mod Restoring
mod Prelude
