mod Going
mod Starting
mod Sending
mod Finding
mod Accepting
mod Recorded
pub mod Outlasting
