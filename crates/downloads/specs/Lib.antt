pub mod Downloads
pub mod Parts
pub mod Taken
pub mod Added
pub mod Messages
pub mod Told
pub mod MessageParts
