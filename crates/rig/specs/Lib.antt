pub mod Attempt
pub mod Limit
pub mod Parts
pub mod Rehearsal
pub mod Seen
pub mod Watch
