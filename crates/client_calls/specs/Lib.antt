pub mod Requests
pub mod Answers
pub mod Results
pub mod Sending
pub mod Parts
