pub mod Amount
pub mod Claims
pub mod History
pub mod Machine
pub mod Rig
pub mod Round
