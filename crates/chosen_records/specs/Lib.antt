pub mod Chosen
pub mod Tallies
