pub mod Majorities
pub mod Agreement
pub mod Places
pub mod Slots
pub mod Judged
pub mod ByMessages
