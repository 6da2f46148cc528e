pub mod Descriptor
pub mod Canonical
pub mod Taking
pub mod Stripping
pub mod LengthPrefix
pub mod Merged
