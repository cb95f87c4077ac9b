pub mod Base
pub mod Worked
