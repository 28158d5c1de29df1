pub mod Ended
pub mod Noted
pub mod OnSystem
pub mod Ran
pub mod Reported
pub mod Words
