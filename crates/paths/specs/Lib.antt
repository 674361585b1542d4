pub mod Fill
pub mod Join
pub mod Kind
pub mod Net
pub mod Price
pub mod Worth
