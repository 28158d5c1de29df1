pub mod Blocks
pub mod Frames
pub mod Pieces
pub mod Signs
