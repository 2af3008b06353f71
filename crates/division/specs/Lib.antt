pub mod Turns
pub mod Outcome
