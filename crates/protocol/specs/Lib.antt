pub mod Keys
pub mod Limits
pub mod Refusals
