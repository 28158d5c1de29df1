pub mod Requests
pub mod Signals
