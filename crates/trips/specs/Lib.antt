pub mod Links
pub mod Trips
pub mod Climbs
pub mod Theorems
pub mod Examples
