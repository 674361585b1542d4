pub mod Filling
pub mod Joining
pub mod KindLaws
