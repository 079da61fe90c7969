mod FileMaps
pub mod Pieces
mod Reading
