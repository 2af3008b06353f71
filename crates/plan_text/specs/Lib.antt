pub mod Commands
pub mod Texts
pub mod Pictures
pub mod Laid
pub mod Trees
pub mod Reports
pub mod Readers
