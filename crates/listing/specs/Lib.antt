pub mod Operand
pub mod Symbol
pub mod Text
