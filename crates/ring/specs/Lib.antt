pub mod Linked
pub mod Faults
pub mod Areas
