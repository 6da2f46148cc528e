pub mod Places
pub mod Moving
pub mod Joining
pub mod Fresh
