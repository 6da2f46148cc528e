pub mod Shaped
pub mod Telling
pub mod Blank
pub mod Gathered
pub mod Holding
pub mod Making
pub mod Refusing
