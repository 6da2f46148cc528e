pub mod CellViews
pub mod Places
