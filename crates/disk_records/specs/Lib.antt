pub mod RecordFile
pub mod Reading
pub mod Disk
pub mod MemoryDisk
pub mod MemoryDiskLaws
pub mod DiskCalls
pub mod Ready
pub mod DiskStable
