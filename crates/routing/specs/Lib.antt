pub mod Waiting
pub mod Seams
pub mod Splits
pub mod Passes
pub mod Turns
pub mod Answers
