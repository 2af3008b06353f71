pub mod Parts
pub mod Splitting
pub mod Turns
