-- That reading the text of a script gives the script, and that a script that was read has a text.
pub mod Back
pub mod Calls
pub mod Creations
pub mod Cut
pub mod Instrs
pub mod Json
pub mod Kept
pub mod Levels
pub mod Nesting
pub mod Objects
pub mod Script
pub mod Seconds
pub mod Shallow
pub mod Stacked
pub mod Tree
pub mod Values
