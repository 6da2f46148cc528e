pub mod Zipped
pub mod Reading
pub mod Words
pub mod EventWords
pub mod UploadValues
pub mod Schedules
pub mod Scripts
