pub mod Paces
pub mod Deeds
pub mod Stepping
