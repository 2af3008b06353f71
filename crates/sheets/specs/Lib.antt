pub mod Places
pub mod Triangles
