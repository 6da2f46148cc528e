pub mod Entries
pub mod Files
pub mod Damages
pub mod Entered
