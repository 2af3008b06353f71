pub mod Parses
pub mod Listings
pub mod Making
