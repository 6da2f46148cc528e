pub mod Steps
pub mod Headers
pub mod Batches
pub mod Uploads
pub mod Calls
pub mod Apart
pub mod NotRefused
