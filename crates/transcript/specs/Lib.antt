pub mod LinesView
pub mod Loudness
pub mod Summary
pub mod Text
