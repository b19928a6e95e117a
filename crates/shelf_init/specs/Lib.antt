pub mod Blank
pub mod Counted
pub mod Made
pub mod Laws
pub mod Answers
