pub mod Refusals
pub mod Areas
pub mod Rows
