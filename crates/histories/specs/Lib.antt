pub mod Texts
pub mod Due
pub mod Event
pub mod EventResult
pub mod History
pub mod Following
pub mod Owning
pub mod Keeping
