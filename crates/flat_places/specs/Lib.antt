pub mod Held
pub mod Number
pub mod Table
pub mod Vector
pub mod Fault
pub mod TableView
