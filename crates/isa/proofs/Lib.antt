pub mod Carried
pub mod First
pub mod Judging
pub mod Refusing
