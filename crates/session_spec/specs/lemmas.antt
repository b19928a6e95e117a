pub mod Conditions
