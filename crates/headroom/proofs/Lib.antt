pub mod Capacities
pub mod Following
pub mod Raising
