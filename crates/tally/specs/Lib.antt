pub mod Kind
pub mod Totals
pub mod Vehicles
pub mod Queues
