pub mod Bars
pub mod Edges
pub mod Shares
