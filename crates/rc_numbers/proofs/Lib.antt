pub mod CycleLemmas
pub mod PassLemmas
pub mod StepLemmas
pub mod Words
