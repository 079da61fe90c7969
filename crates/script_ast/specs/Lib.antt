pub mod Entries
pub mod Fallbacks
pub mod Fields
pub mod Holders
pub mod Operations
pub mod Ranges
pub mod WellFormed
pub mod Words
