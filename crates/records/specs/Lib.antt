pub mod Few
pub mod Limits
