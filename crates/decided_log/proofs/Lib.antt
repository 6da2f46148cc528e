pub mod Lookups
pub mod Joining
pub mod Gaining
pub mod Asking
