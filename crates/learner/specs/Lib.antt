pub mod Calls
pub mod Votes
pub mod State
pub mod Learned
pub mod Changes
