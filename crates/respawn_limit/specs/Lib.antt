pub mod Past
pub mod State
pub mod Window
