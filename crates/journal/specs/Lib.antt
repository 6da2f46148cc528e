pub use Rattle.node_parts.specs as parts
pub mod Recalled
pub mod Kept
pub mod Journaled
pub mod Logged
pub mod Receipts
