pub use Rattle.node_threads.specs.journal as journal
pub use Rattle.node_threads.specs.parts as parts
pub use Rattle.node_threads.specs.seats as seats
pub mod Held
pub mod Backing
