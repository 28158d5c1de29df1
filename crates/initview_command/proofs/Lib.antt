pub mod Asked
pub mod Files
pub mod Followed
pub mod Reloads
pub mod Shown
pub mod Words
