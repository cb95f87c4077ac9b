pub mod Chains
pub mod Counts
pub mod First
pub mod Order
pub mod Parts
pub mod Rows
