pub mod Learning
pub mod Safe
