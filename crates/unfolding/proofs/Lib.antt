pub mod Ways
pub mod Splits
pub mod Along
pub mod LeafStops
pub mod Apart
pub mod Rounds
pub mod Growing
pub mod Turns
