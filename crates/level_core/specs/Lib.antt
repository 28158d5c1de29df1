pub mod Between
pub mod Places
pub mod Signals
pub mod Words
