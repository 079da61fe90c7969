pub mod Fields
pub mod Instructions
pub mod Outcome
pub mod Seconds
pub mod Values
