pub mod BlankLemmas
pub mod CommonWords
pub mod CutLemmas
pub mod NumberLemmas
pub mod PieceLemmas
pub mod Utf8Lemmas
