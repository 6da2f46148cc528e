pub mod Methods
pub mod Statuses
pub mod Names
pub mod Texts
pub mod Results
