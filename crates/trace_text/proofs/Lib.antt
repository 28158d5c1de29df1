pub mod CommonWords
pub mod LineFronts
pub mod LineTexts
pub mod LineWords
pub mod ReadTexts
