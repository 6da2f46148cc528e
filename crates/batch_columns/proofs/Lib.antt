pub mod Holding
pub mod Making
pub mod Looking
pub mod Beside
pub mod Counting
pub mod Comparing
pub mod Listing
pub mod Reading
