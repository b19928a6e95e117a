pub mod OnEach
pub mod Staged
pub mod Lists
pub mod Showing
pub mod Along
pub mod Storing
pub mod Losing
pub mod Closing
pub mod Viewed
mod Mended
pub mod Settled
pub mod SettledEach
mod Synced
pub mod Looking
mod Prelude
pub mod Assembled
