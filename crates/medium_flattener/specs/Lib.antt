pub mod Front
pub mod Made
