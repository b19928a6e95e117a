pub mod Commands
pub mod Sessions
pub mod Made
pub mod Serving
