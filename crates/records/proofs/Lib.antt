mod Positions
pub mod Table
pub mod RowOfLimits
pub mod Absent
