pub mod Putting
pub mod OnTheWay
pub mod Turning
pub mod Splitting
pub mod Running
