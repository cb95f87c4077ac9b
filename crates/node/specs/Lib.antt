pub mod Seen
pub mod Slotted
