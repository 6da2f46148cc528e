pub mod Marks
pub mod Identities
pub mod IdentityTexts
pub mod Readings
