pub mod Forgetful
