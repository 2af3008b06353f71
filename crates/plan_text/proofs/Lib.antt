pub mod Circles
pub mod Drawing
pub mod Texts
pub mod Holders
pub mod Accepted
pub mod Trees
pub mod Reports
