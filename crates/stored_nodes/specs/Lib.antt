pub mod Kept
pub mod State
pub mod Steps
pub mod Parts
pub mod Reopening
