pub mod Awaited
mod ChildLists
pub mod Lining
mod Lones
pub mod Reasons
pub mod SeenTexts
pub mod Sights
pub mod Stands
pub mod WhyRows
pub mod Words
