pub mod Varint
pub mod Field
pub mod Meaning
pub mod Lookup
pub mod Reading
pub mod Writing
pub mod Scalar
