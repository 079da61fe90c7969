pub mod Levels
pub mod Held
pub mod Ready
