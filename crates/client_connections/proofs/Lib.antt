pub mod Named
pub mod CallerLemmas
pub mod Opened
