pub mod Faults
pub mod Walking
pub mod VectorRefs
pub mod ParameterView
pub mod FieldRefView
pub mod Building
pub mod Reading
