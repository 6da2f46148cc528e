pub mod Requested
pub mod Endpoints
pub mod Heard
