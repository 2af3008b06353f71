pub mod Places
pub mod Turns
pub mod Plans
