pub mod Sets
pub mod Parts
pub mod Places
pub mod Losing
pub mod Showing
