pub mod Frames
pub mod Laws
pub mod Lives
pub mod Marks
pub mod Pieces
pub mod Rows
