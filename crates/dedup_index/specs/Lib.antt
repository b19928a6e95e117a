pub mod Fnv
pub mod Entries
