pub mod Pricing
pub mod Loading
