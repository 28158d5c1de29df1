pub mod GrownLemmas
pub mod Handing
