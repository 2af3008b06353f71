pub mod Faults
pub mod Orders
pub mod Networks
pub mod Quotes
