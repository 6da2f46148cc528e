pub mod Words
pub mod Explanation
