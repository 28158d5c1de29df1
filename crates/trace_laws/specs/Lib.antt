pub mod Belonging
pub mod Moments
pub mod Orderly
pub mod Plans
pub mod Runs
pub mod Stretches
pub mod Warnings
pub mod Words
