pub mod Replying
pub mod Running
