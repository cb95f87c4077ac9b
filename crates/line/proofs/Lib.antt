pub mod Ring
pub mod Sessions
pub mod QueueOrders
pub mod Found
pub mod Turns
pub mod Posts
pub mod BoardOrders
