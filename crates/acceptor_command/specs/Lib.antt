pub mod Conversation
pub mod Serving
