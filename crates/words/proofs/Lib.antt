pub mod Same
pub mod Split
