pub mod Course
pub mod Counts
