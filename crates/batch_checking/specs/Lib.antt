pub mod SourceRules
pub mod Around
pub mod Checked
pub mod Columns
pub mod Walk
pub mod Whole
