pub mod Found
pub mod Calls
pub mod Moments
pub mod MemoryStable
pub mod Telling
pub mod FailingStable
