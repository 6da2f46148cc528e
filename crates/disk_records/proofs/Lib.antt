pub mod CallerLemmas
mod Blocks
mod Readings
mod Runs
mod Keeping
mod Stores
mod Recovering
mod MemoryDisks
