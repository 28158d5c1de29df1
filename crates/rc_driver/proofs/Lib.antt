pub mod CallLemmas
pub mod LinkWords
pub mod OrderLemmas
pub mod PlannedLemmas
pub mod PrintLemmas
pub mod RunLemmas
pub mod ToldLemmas
pub mod Words
