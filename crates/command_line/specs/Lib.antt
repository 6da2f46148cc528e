pub mod CommandLine
pub mod Calls
pub mod Numbers
