pub mod Held
pub mod SharingStable
