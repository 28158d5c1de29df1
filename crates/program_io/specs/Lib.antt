pub mod Arguments
pub mod Known
pub mod Reports
pub mod Writing
