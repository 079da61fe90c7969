pub mod Generator
pub mod Voices
