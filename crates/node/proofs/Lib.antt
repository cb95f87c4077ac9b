pub mod Places
pub mod Slotting
