pub mod Exactly
pub mod Front
pub mod Lying
