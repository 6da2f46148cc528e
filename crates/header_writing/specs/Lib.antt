pub mod Objects
pub mod Canonical
pub mod Filling
pub mod Written
pub mod Writing
pub mod Weights
