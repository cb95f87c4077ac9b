pub mod Lines
pub mod Logs
