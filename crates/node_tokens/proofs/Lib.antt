pub mod Dropped
pub mod Looking
