pub mod TraceReading
pub mod Telling
pub mod Verdicts
pub mod Flawed
