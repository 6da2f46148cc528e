pub mod Replies
pub mod Serving
pub mod Backing
pub mod Describing
pub mod Framing
pub mod Responding
pub mod Sending
