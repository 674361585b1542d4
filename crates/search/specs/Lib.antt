pub mod Flood
pub mod Loops
pub mod Order
pub mod Reach
pub mod Visit
pub mod Ways
