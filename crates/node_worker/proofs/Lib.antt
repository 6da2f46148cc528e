mod Closing
mod Waiting
mod Doing
