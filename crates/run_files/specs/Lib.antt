pub mod JsonValues
pub mod UploadValue
pub mod ScheduleFile
pub mod ScriptFile
pub mod Flaws
