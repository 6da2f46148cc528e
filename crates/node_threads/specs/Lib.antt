pub use Rattle.seats as seats
pub use Rattle.seats.specs.journal as journal
pub use Rattle.seats.specs.parts as parts
pub mod Told
pub mod Faults
pub mod Working
