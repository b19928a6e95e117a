pub mod Map
pub mod Marking
pub mod Left
pub mod Laws
