pub mod Laid
pub mod Frames
pub mod View
pub mod Written
