pub mod Reading
pub mod Parts
pub mod Adds
pub mod Sound
