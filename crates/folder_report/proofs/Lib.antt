mod Filling
mod Marking
mod Listed
mod Standing
mod OneReport
