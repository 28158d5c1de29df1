pub mod TextLemmas
pub mod Words
