pub mod Announced
pub mod LineFaults
