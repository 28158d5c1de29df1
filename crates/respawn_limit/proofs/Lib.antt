pub mod PastLemmas
pub mod WindowLemmas
pub mod Words
