pub mod Chains
pub mod Cursors
