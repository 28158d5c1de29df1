pub mod Channels
pub mod CommandLine
pub mod Notes
