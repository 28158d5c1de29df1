pub mod Fronts
pub mod Judging
pub mod Words
