pub mod Decided
pub mod Asked
pub mod LogState
pub mod Keeping
