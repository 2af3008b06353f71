pub mod Crossing
pub mod Scans
pub mod Firsts
pub mod InArea
pub mod Searches
pub mod Filling
pub mod Drawing
pub mod Marking
