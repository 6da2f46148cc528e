pub mod Lists
pub mod Saying
pub mod Uncut
pub mod Moving
pub mod Mirroring
pub mod Walking
pub mod Settled
