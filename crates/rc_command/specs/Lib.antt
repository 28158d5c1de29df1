pub mod CommandLine
pub mod Endings
pub mod Folders
pub mod LevelFiles
