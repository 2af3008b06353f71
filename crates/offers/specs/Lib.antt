pub mod Offers
pub mod Words
pub mod KindNames
