pub mod Settling
pub mod OneValue
pub mod Learning
pub mod History
pub mod Lookups
pub mod Voting
pub mod Adding
