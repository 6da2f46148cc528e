pub use Rattle.cluster_backend.specs.journal as journal
pub use Rattle.cluster_backend.specs.parts as parts
pub use Rattle.cluster_backend.specs.seats as seats
pub mod Connections
