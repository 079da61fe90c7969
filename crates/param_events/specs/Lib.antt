pub mod Edits
pub mod Events
pub mod Lines
pub mod Pieces
pub mod Places
pub mod Timeline
pub mod Values
