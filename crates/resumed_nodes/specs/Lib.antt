pub mod Heard
pub mod Hearing
pub mod Starting
pub mod Knowing
