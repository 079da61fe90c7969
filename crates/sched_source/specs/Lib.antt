pub mod Drawing
pub mod Playback
pub mod Schedule
