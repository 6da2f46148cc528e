pub mod Informing
pub mod Asking
pub mod Lines
