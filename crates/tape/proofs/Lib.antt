mod BigEndian
mod KindBytes
mod Lengths
mod OneMeaning
mod Pieces
mod Puts
pub mod Rewriting
pub mod Showing
pub mod RoundTrips
pub mod Runs
pub mod SameContent
pub mod TapeBytes
