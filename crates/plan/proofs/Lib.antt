pub mod Sides
pub mod Checks
pub mod Alike
