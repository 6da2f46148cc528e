pub mod Keys
pub mod Waiting
