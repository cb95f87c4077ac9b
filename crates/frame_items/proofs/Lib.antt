pub mod Walking
pub mod Writing
