pub mod Beyond
pub mod Unique
pub mod FieldTrees
pub mod Fitting
pub mod SameShape
pub mod Profiled
