pub mod Generations
pub mod Handed
pub mod Lasting
pub mod Words
