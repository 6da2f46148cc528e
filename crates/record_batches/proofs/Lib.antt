pub mod Rows
pub mod Faults
pub mod Adding
pub mod Inside
pub mod Lengths
pub mod Whole
pub mod Rooms
