pub mod Header
pub mod Fields
pub mod Position
pub mod Stripes
pub mod Prelude
