pub mod Flat
pub mod Helper
pub mod Model
pub mod Operand
pub mod Prices
pub mod Store
