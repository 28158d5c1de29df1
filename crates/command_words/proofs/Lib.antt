pub mod KnownLines
pub mod Refusals
