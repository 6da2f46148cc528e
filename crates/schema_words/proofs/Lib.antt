mod Gathering
mod Unique
mod Wording
