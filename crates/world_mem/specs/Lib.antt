pub mod Called
pub mod Fuse
pub mod FuseLaws
pub mod Laws
pub mod Parts
pub mod Past
