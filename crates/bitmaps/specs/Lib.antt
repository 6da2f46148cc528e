pub mod Bits
pub mod Packed
pub mod Packing
pub mod Joined
