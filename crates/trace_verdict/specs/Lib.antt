pub mod Answers
pub mod Fronts
pub mod Judges
pub mod Readers
