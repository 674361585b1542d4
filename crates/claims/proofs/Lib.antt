pub mod Claiming
pub mod Following
pub mod Going
pub mod Invariant
pub mod Keeping
pub mod Rounding
pub mod Running
