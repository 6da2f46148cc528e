pub mod Views
pub mod Due
pub mod Naming
pub mod Keeping
pub mod Calling
