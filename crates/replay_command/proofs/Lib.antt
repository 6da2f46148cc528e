pub mod Schedules
pub mod Telling
