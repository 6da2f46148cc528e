pub mod Lines
pub mod Replaying
