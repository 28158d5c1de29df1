pub mod ListLemmas
pub mod NameLemmas
