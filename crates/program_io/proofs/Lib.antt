pub mod ReportLemmas
pub mod WritingLemmas
