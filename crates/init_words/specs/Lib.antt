pub mod Actions
pub mod Entries
pub mod Ids
pub mod Levels
pub mod Orders
pub mod Padded
pub mod Parts
pub mod Refusals
