pub mod Parts
pub mod Texts
pub mod Zipped
pub mod Digits
pub mod Told
pub mod Lexing
pub mod Written
