pub mod Children
pub mod Following
pub mod Graces
pub mod Killing
pub mod Moments
pub mod Rows
pub mod Warning
pub mod Worked
