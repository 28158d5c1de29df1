pub mod LinkLemmas
pub mod MendingLemmas
pub mod MendingRows
pub mod NameLemmas
pub mod NeedLemmas
pub mod PlanLemmas
pub mod SetLemmas
pub mod Words
