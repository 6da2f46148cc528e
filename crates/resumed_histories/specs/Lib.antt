pub mod StartingOver
pub mod Finding
