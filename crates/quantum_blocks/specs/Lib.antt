pub mod Connections
pub mod Blocks
pub mod Held
pub mod Heard
pub mod Fits
pub mod Waiting
pub mod Pairs
