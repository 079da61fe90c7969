pub mod WavLemmas
mod ChunkList
mod Rounding
mod Decoding
mod Ranges
mod FileBack
mod HeaderBack
mod ReadingBack
pub mod Recorded
mod Steps
pub mod Widths
