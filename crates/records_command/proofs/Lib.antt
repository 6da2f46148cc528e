mod Telling
mod Shown
mod FolderLines
