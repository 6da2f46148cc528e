pub mod Parts
pub mod Knowing
pub mod Answering
pub mod Proposing
pub mod Learning
