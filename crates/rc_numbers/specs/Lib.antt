pub mod Numbering
pub mod Passes
