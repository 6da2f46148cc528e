pub mod Addresses
pub mod Events
pub mod Conversations
