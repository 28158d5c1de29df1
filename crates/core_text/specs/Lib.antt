pub mod CommonWords
pub mod Lines
pub mod Range
pub mod Reading
pub mod Refused
pub mod Versions
