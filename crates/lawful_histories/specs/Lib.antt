pub mod Majorities
pub mod Saying
pub mod Recorded
pub mod Lawful
pub mod Messages
pub mod HistoryLaws
pub mod Judging
