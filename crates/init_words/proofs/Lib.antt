pub mod Behind
pub mod IdParts
pub mod Same
pub mod Spelled
pub mod Tests
