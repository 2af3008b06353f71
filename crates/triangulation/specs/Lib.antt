pub mod Trees
pub mod Filling
pub mod Geometry
