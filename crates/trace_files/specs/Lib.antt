pub mod Filed
pub mod Left
