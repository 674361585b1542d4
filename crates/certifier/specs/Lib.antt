pub mod Certify
pub mod Clear
pub mod Example
pub mod Fits
pub mod Judge
pub mod Priced
