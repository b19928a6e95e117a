pub mod Devices
pub mod Says
pub mod Unwritten
pub mod Lines
pub mod Items
pub mod Spelling
