pub mod Scaling
pub mod Gathering
pub mod Showing
pub mod Regioning
pub mod Tracing
