mod Finding
mod Keeping
