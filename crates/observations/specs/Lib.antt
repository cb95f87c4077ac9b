pub mod Figures
pub mod Line
pub mod Reader
pub mod Source
