pub mod Along
pub mod Counted
pub mod Reach
pub mod Tally
pub mod Sizes
