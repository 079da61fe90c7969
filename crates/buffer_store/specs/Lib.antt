pub mod Buffers
pub mod BufferLaws
pub mod Recordings
