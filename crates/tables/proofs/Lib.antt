pub mod Charting
pub mod Describing
pub mod Tabling
