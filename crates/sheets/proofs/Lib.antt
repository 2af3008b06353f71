pub mod Reading
pub mod Climbing
pub mod Leaves
