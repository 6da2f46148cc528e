pub mod Bytes
pub mod Numbers
pub mod Fields
pub mod Vectors
pub mod Longer
