pub mod Command
pub mod Texts
pub mod Values
pub mod WordByWord
pub mod Words
