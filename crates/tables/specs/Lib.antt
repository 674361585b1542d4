pub mod Chart
pub mod Node
pub mod Start
pub mod Walk
