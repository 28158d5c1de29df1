pub mod Meant
pub mod Programs
pub mod Shell
pub mod Warnings
