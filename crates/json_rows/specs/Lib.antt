pub mod Forms
pub mod NonFinites
pub mod Numbers
pub mod Cells
pub mod Written
pub mod Lines
