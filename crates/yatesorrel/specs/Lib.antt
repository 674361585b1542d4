pub mod Refusal
pub mod Script
pub mod Source
