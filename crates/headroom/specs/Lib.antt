pub mod Budget
pub mod Capacity
pub mod Stretch
