pub mod Pairs
pub mod Together
pub mod Rising
