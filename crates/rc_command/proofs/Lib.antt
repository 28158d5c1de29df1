pub mod CommonWords
pub mod ReadWords
pub mod Reported
