pub mod Gates
pub mod Judging
pub mod Marking
