pub mod Arguments
pub mod CommandLines
pub mod Faults
pub mod Rejections
pub mod Slips
pub mod VersionLine
