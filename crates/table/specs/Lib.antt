pub mod Cells
pub mod Changes
pub mod Counts
pub mod Keys
pub mod Order
pub mod Parts
