pub mod Names
pub mod Sizes
pub mod Messages
pub mod Calls
pub mod Counted
pub mod Versions
pub mod Agreeing
pub mod Places
