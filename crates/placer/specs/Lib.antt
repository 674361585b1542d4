pub mod Example
pub mod Place
pub mod Settle
pub mod SlotBytes
pub mod Turn
pub mod Turned
