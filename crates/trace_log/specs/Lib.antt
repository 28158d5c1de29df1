pub mod Faults
pub mod Lists
pub mod Logs
pub mod Streams
