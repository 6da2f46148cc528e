pub mod Made
pub mod Enters
pub mod Rows
pub mod Walks
pub mod Calls
pub mod Found
