pub mod Contains
pub mod Newest
pub mod Layers
pub mod Merges
pub mod Keys
pub mod Sets
pub mod Shown
