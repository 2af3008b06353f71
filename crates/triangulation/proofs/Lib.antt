pub mod Places
pub mod Parts
pub mod ByPlace
pub mod Fills
