pub mod Counted
pub mod Majorities
pub mod Recording
pub mod Rising
pub mod Told
