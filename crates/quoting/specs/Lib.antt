pub mod Areas
pub mod Climbs
pub mod Places
pub mod Seams
pub mod Walks
