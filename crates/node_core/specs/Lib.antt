pub mod State
pub mod Inputs
pub mod Plans
pub mod Reopening
