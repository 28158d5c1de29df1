pub mod Checks
pub mod Faults
pub mod Kept
pub mod Lines
pub mod Parts
pub mod Reading
pub mod Tables
pub mod Written
