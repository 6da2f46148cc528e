pub mod Addresses
pub mod Restarting
pub mod Backoff
