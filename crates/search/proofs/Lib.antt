pub mod Counting
pub mod Flooding
pub mod Listing
pub mod Marking
pub mod Reaching
pub mod Starting
