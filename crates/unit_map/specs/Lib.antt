pub mod Bits
pub mod Units
pub mod UnitFields
pub mod Map
pub mod Choice
pub mod Prelude
