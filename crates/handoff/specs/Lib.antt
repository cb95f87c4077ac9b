pub mod Node
pub mod Taking
pub mod Showing
pub mod Sending
pub mod Eight
