pub mod Puts
pub mod Prints
pub mod Gets
