pub mod Field
pub mod Parity
pub mod Recovery
pub mod Deciding
