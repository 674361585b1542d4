pub mod Arithmetic
pub mod Comparison
pub mod Memory
pub mod Width
