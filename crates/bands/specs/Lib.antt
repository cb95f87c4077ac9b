pub mod Bar
pub mod Bounds
pub mod Count
pub mod Share
pub mod Table
