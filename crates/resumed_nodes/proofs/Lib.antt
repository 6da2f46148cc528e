mod Told
mod Each
mod Refusing
pub mod Taking
pub mod Members
pub mod Restarted
pub mod Learned
pub mod Knowing
