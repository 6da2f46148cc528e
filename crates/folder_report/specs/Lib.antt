pub mod Reporting
pub mod Values
pub mod Marks
pub mod Lines
