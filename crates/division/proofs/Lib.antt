pub mod Turning
pub mod Numbers
pub mod Fronts
pub mod OneResult
