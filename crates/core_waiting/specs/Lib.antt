pub mod Arrival
pub mod Awaiting
pub mod Coming
pub mod Lines
pub mod Requests
pub mod Rest
pub mod Words
