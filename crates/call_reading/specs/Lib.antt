pub mod Requests
pub mod Faults
pub mod Builder
pub mod Additions
pub mod Reading
pub mod Uploading
