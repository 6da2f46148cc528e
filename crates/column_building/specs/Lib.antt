pub mod Slots
pub mod Whole
pub mod Built
pub mod Faults
pub mod Kinds
pub mod Rows
