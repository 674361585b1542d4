pub mod Escape
pub mod Page
