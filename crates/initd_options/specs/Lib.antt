pub mod CommandLine
pub mod Options
