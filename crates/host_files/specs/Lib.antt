pub mod Channels
pub mod Folders
pub mod Grown
