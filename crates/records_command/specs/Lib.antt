pub mod Lines
pub mod Showing
pub mod Folders
pub mod FolderFaults
