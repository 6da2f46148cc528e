pub mod TraceFile
pub mod Flaws
pub mod Explained
