pub mod Blocks
pub mod Faults
pub mod Forms
pub mod HeaderText
pub mod Headers
pub mod Keywords
pub mod Places
