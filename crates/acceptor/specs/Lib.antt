pub mod Standing
pub mod Ranges
pub mod AcceptorState
pub mod Answering
pub mod Ranged
pub mod Raising
pub mod Restored
pub mod Turns
