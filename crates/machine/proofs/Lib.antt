pub mod Processes
pub mod Runs
pub mod Stepping
