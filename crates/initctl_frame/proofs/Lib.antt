pub mod BlockLemmas
pub mod FrameLemmas
pub mod Words
