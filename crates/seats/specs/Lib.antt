pub use Rattle.journal as journal
pub use Rattle.journal.specs.parts as parts
pub mod OwnLists
pub mod OwnListsSeen
pub mod Inputs
pub mod State
pub mod Entries
pub mod Compact
pub mod Steps
pub mod Walking
