mod Counting
pub mod LineTexts
