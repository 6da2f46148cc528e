pub mod Asked
pub mod Versions
pub mod Agreeing
