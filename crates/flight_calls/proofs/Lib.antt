pub mod Frames
pub mod Sizes
pub mod Replying
pub mod Calls
pub mod OneReply
pub mod Writing
