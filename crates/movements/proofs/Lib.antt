pub mod Lawful
pub mod Walk
pub mod Octets
pub mod Asking
