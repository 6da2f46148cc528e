mod Ends
mod Worth
mod Entering
mod Logging
mod Counting
