pub mod FiledLemmas
pub mod LeftLemmas
